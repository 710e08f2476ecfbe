use Rattle.std.proofs.Common.{List, sym, ◌∙◌, subst}
use Rattle.std.specs.Prelude.{MatchOption}
use Rattle.std.specs.List.{Contains}
use Rattle.glk_closure.specs.declared.name.Name.{Name}
use Rattle.glk_closure.specs.declared.name.Signature.{Signature}
use Rattle.glk_closure.specs.Reach.{Fact, Sig, Named}
use Rattle.glk_closure.specs.Rows.{Stands}
use Rattle.glk_closure.specs.CallTable.{facts_of}
use Rattle.glk_closure.proofs.MetCalls.{sig_row}
use Rattle.glk_closure.proofs.call_table.CallTable.sig_at.Goals as goal

pub returns : goal.returns
returns c =
    let s = c.self.inside in
    let facts = facts_of s.calls.items in
    let name : Name = record { bytes = c.args.name } in
    let q : Signature = record { named = c.in_ok-named.named; of = c.args.of } in
    let stands = (c.self.invariant.named name c.in_ok-named.named).1 (sym c.row_of_name.ensures ∙ c.in_ok-named.was) in
    let P : List Fact → Type 0 = λ l. MatchOption c.row_of_signature.result (Contains l (Sig c.args.name.now c.args.of) → ⊥) (λ row. Stands l row (Sig c.args.name.now c.args.of)) in
    subst P c.self.view_is (sig_row facts s.names s.signatures s.reflection c.self.invariant c.args.name.now q stands c.row_of_signature.result c.row_of_signature.ensures)
