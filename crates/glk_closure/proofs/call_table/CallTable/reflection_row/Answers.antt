use Rattle.std.proofs.Common.{◌≡◌, Some, None, sym, refl, rules, length, List, subst}
use Rattle.glk_closure.specs.declared.call.Call.TheVariants as call
use Rattle.glk_closure.specs.Reach.{Fact, Reflect}
use Rattle.glk_closure.specs.Rows.{Numbers}
use Rattle.glk_closure.specs.CallTable.{facts_of}
use Rattle.glk_closure.proofs.CallLemmas.{facts_push, facts_length, numbers_old, numbers_new, fresh_reflection, fits_reflection}
use Rattle.glk_closure.proofs.call_table.CallTable.reflection_row.Goals as goal

pub returns-in-Some : goal.returns-in-Some
returns-in-Some c =
    let facts = facts_of c.self.inside.calls.items in
    let is : c.self.inside.reflection ≡ Some c.in-Some.row = search rules in
    let P : List Fact → Type 0 = λ l. Numbers l l Reflect c.in-Some.row in
    subst P c.self.view_is (numbers_old facts Reflect c.in-Some.row ((c.self.invariant.reflection c.in-Some.row).1 is))

pub invariant_of-self-2 : goal.invariant_of-self-2
invariant_of-self-2 c =
    let facts = facts_of c.self.inside.calls.items in
    let none : c.self.inside.reflection ≡ None = search rules in
    let size : c.in_ok-row.row ≡ length facts = facts_length c.self.inside.calls.items c.self.inside.calls.len c.in_ok-row.row (sym c.self.inside.calls.ok.0) (search rules) in
    let more = facts_push c.self.inside.calls.items c.push.new.self.items c.self.inside.calls.items call.Reflect c.in_ok-push.ensures.items refl in
    fits_reflection facts c.self.inside.names c.self.inside.signatures c.self.inside.reflection c.in_ok-row.row c.self.invariant none size (facts_of c.push.new.self.items) more

pub returns : goal.returns
returns c =
    let facts = facts_of c.self.inside.calls.items in
    let none : c.self.inside.reflection ≡ None = search rules in
    let size : c.in_ok-row.row ≡ length facts = facts_length c.self.inside.calls.items c.self.inside.calls.len c.in_ok-row.row (sym c.self.inside.calls.ok.0) (search rules) in
    let more = facts_push c.self.inside.calls.items c.push.new.self.items c.self.inside.calls.items call.Reflect c.in_ok-push.ensures.items refl in
    let fresh = fresh_reflection facts c.self.inside.names c.self.inside.signatures c.self.inside.reflection c.in_ok-row.row c.self.invariant none size in
    let P : List Fact → Type 0 = λ l. Numbers l (facts_of c.push.new.self.items) Reflect c.in_ok-row.row in
    subst P c.self.view_is (numbers_new facts (facts_of c.push.new.self.items) Reflect c.in_ok-row.row more size fresh)
