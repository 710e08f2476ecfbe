use Rattle.std.proofs.Common.{◌∙◌, ap, sym}
use Rattle.glk_obj.specs.Records.{fingerprint}
use Rattle.glk_arena.proofs.StoredLemmas.{print_step, print_end}
use Rattle.glk_arena.proofs.stored.first_fingerprint.Goals as goal

pub returns-then-ne : goal.returns-then-ne
returns-then-ne c =
    let is = c.fingerprint-print.ensures ∙ ap fingerprint c.view-view.ensures in
    let step = print_step c.args.file.now c.args.objects.now c.loop-object.object-index _ c.fingerprint-print.result c.loop-object-test.true is in
    sym (step.0 (sym c.ne.ensures ∙ c.if-ne.true)) ∙ c.loop-object.invariant

pub loop-object-preserved : goal.loop-object-preserved
loop-object-preserved c =
    let is = c.fingerprint-print.ensures ∙ ap fingerprint c.view-view.ensures in
    let step = print_step c.args.file.now c.args.objects.now c.loop-object.object-index _ c.fingerprint-print.result c.loop-object-test.true is in
    sym (step.1 (sym c.ne.ensures ∙ c.if-ne.false)) ∙ c.loop-object.invariant

pub returns : goal.returns
returns c = sym (print_end c.args.file.now c.args.objects.now c.loop-object.object-index c.loop-object-test.false) ∙ c.loop-object.invariant
