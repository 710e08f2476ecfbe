use Rattle.std.proofs.Common.{◌∙◌, List, map, sym, ap, subst}
use Rattle.std.specs.List.{All}
use Rattle.std.proofs.lemmas.List.Elements.{All-nil}
use Rattle.glk_closure.specs.Graph.{Effect}
use Rattle.glk_closure.specs.Views.{effect_view, IsWithin}
use Rattle.glk_keys.specs.Rows.{row_count}
use Rattle.glk_reach.specs.Effects.{effects_of}
use Rattle.glk_effects.proofs.Added.{from_none}
use Rattle.glk_effects.proofs.Parts.{effects_none}
use Rattle.glk_effects.proofs.graph.ReachGraphProgram.effects.Goals as goal

pub returns-in_default-clause-value : goal.returns-in_default-clause-value
returns-in_default-clause-value c =
    let p = c.args.self.now.read.now.merged.now.program in
    ap (map effect_view) c.clear.ensures.items ∙ sym (effects_none p c.args.key (sym c.in_default.ensures.value))

pub returns-in_default-clause-within : goal.returns-in_default-clause-within
returns-in_default-clause-within c =
    let p = c.args.self.now.read.now.merged.now.program in
    let P : List Effect → Type 0 = All (IsWithin (row_count p)) in
    subst P (sym (effects_none p c.args.key (sym c.in_default.ensures.value))) (All-nil (IsWithin (row_count p)))

pub returns-clause-value : goal.returns-clause-value
returns-clause-value c =
    let p = c.args.self.now.read.now.merged.now.program in
    from_none (row_count p) c.clear.new.self.items c.push_effects.new.out.items (effects_of p c.args.key) c.clear.ensures.items c.in_ok-push_effects.ensures

pub returns-clause-within : goal.returns-clause-within
returns-clause-within c = c.in_ok-push_effects.ensures.within
