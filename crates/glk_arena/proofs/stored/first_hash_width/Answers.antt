use Rattle.std.proofs.Common.{◌+◌, ◌∙◌, drop, map, sym, ap}
use Rattle.std.specs.Option.{option_or}
use Rattle.glk_obj.specs.Records.{hash_width}
use Rattle.glk_package.specs.WidthRule.{first_width}
use Rattle.glk_arena.specs.Stored.{stored_data}
use Rattle.glk_arena.proofs.StoredLemmas.{stored_width, stored_width_end}
use Rattle.glk_arena.proofs.stored.first_hash_width.Goals as goal

pub returns-in-Some : goal.returns-in-Some
returns-in-Some c =
    let is = c.hash_width.ensures ∙ ap hash_width c.view-view.ensures in
    let step = stored_width c.args.file.now c.args.objects.now c.loop-object.object-index _ c.hash_width.result c.loop-object-test.true is in
    ap (λ o. option_or o (first_width (map (stored_data c.args.file.now) (drop (c.loop-object.object-index + 1) c.args.objects.now)))) (sym c.in-Some.is) ∙ sym step ∙ c.loop-object.invariant

pub loop-object-preserved : goal.loop-object-preserved
loop-object-preserved c =
    let is = c.hash_width.ensures ∙ ap hash_width c.view-view.ensures in
    let step = stored_width c.args.file.now c.args.objects.now c.loop-object.object-index _ c.hash_width.result c.loop-object-test.true is in
    ap (λ o. option_or o (first_width (map (stored_data c.args.file.now) (drop (c.loop-object.object-index + 1) c.args.objects.now)))) (sym c.in_default.is) ∙ sym step ∙ c.loop-object.invariant

pub returns : goal.returns
returns c = sym (stored_width_end c.args.file.now c.args.objects.now c.loop-object.object-index c.loop-object-test.false) ∙ c.loop-object.invariant
