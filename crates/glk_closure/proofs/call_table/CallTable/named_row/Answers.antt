use Rattle.std.proofs.Common.{◌≡◌, sym, ap, refl, rules, length, List, subst}
use Rattle.glk_closure.specs.declared.name.Name.{Name}
use Rattle.glk_closure.specs.declared.call.Call.TheVariants as call
use Rattle.glk_closure.specs.Reach.{Fact, Named}
use Rattle.glk_closure.specs.Rows.{Numbers}
use Rattle.glk_closure.specs.CallTable.{facts_of}
use Rattle.glk_closure.proofs.CallLemmas.{facts_push, facts_length, fits_unchanged, numbers_old, numbers_new, fresh_name, fits_name}
use Rattle.glk_closure.proofs.call_table.CallTable.named_row.Goals as goal

pub returns-in-Some : goal.returns-in-Some
returns-in-Some c =
    let facts = facts_of c.self.inside.calls.items in
    let q : Name = record { bytes = c.args.name } in
    let P : List Fact → Type 0 = λ l. Numbers l l (Named c.args.name.now) c.in-Some.row in
    subst P c.self.view_is (numbers_old facts (Named c.args.name.now) c.in-Some.row ((c.self.invariant.named q c.in-Some.row).1 (sym c.in-Some.ensures)))

pub invariant_of-self-2 : goal.invariant_of-self-2
invariant_of-self-2 c =
    let facts = facts_of c.self.inside.calls.items in
    let q : Name = record { bytes = c.args.name } in
    let size : c.in_ok-row.row ≡ length facts = facts_length c.self.inside.calls.items c.self.inside.calls.len c.in_ok-row.row (sym c.self.inside.calls.ok.0) (search rules) in
    let more = facts_push c.self.inside.calls.items c.push.new.self.items c.reserve.new.self.items (call.Named c.args.name) c.in_ok-push.ensures.items c.in_ok-reserve.ensures.items in
    fits_name facts c.self.inside.names c.insert.new.self c.self.inside.signatures c.self.inside.reflection q c.in_ok-row.row c.self.invariant c.in-None.ensures size c.in_ok-insert.ensures.updates.0 (facts_of c.push.new.self.items) more

pub returns : goal.returns
returns c =
    let facts = facts_of c.self.inside.calls.items in
    let q : Name = record { bytes = c.args.name } in
    let size : c.in_ok-row.row ≡ length facts = facts_length c.self.inside.calls.items c.self.inside.calls.len c.in_ok-row.row (sym c.self.inside.calls.ok.0) (search rules) in
    let more = facts_push c.self.inside.calls.items c.push.new.self.items c.reserve.new.self.items (call.Named c.args.name) c.in_ok-push.ensures.items c.in_ok-reserve.ensures.items in
    let fresh = fresh_name facts c.self.inside.names c.insert.new.self c.self.inside.signatures c.self.inside.reflection q c.in_ok-row.row c.self.invariant c.in-None.ensures size c.in_ok-insert.ensures.updates.0 in
    let P : List Fact → Type 0 = λ l. Numbers l (facts_of c.push.new.self.items) (Named c.args.name.now) c.in_ok-row.row in
    subst P c.self.view_is (numbers_new facts (facts_of c.push.new.self.items) (Named c.args.name.now) c.in_ok-row.row more size fresh)

pub invariant_of-self-in_err-insert : goal.invariant_of-self-in_err-insert
invariant_of-self-in_err-insert c =
    let facts = facts_of c.self.inside.calls.items in
    fits_unchanged facts (facts_of c.reserve.new.self.items) c.self.inside.names c.insert.new.self c.self.inside.signatures c.self.inside.signatures c.self.inside.reflection (ap facts_of c.in_ok-reserve.ensures.items) c.in_err-insert.ensures.err refl c.self.invariant
