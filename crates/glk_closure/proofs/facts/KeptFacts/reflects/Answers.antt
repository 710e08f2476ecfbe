use Rattle.std.proofs.Common.{◌<◌, List, Bool, false, length, sym, ap, ◌∙◌, subst}
use Rattle.std.specs.Prelude.{IfSome}
use Rattle.std.specs.List.{list_any}
use Rattle.std.specs.Option.{option_map_or}
use Rattle.glk_closure.specs.declared.marks.WaitingRow.{WaitingRow}
use Rattle.glk_closure.specs.Facts.{FactsView, is_reflect}
use Rattle.glk_closure.specs.Marks.{called_at}
use Rattle.glk_closure.specs.Reach.{Reflect}
use Rattle.glk_closure.proofs.MetCalls.{by_row, row_inside, reflect_test}
use Rattle.glk_closure.proofs.facts.KeptFacts.reflects.Goals as goal

pub is_met-requires : goal.is_met-requires
is_met-requires c =
    let s = c.self.inside in
    let P : List WaitingRow → Type 0 = λ rows. IfSome c.reflection_at.result (λ r. r < length rows) in
    subst P (sym c.as_slice.ensures.value) (row_inside is_reflect Reflect reflect_test s.calls s.rows.items c.self.invariant c.reflection_at.result c.reflection_at.ensures)

pub returns : goal.returns
returns c =
    let s = c.self.inside in
    c.is_met.ensures
    ∙ ap (λ (rows : List WaitingRow). option_map_or (called_at rows) c.reflection_at.result false) c.as_slice.ensures.value
    ∙ by_row is_reflect Reflect reflect_test s.calls s.rows.items c.self.invariant c.reflection_at.result c.reflection_at.ensures
    ∙ ap (λ (v : FactsView). list_any is_reflect v.calls) c.self.view_is
