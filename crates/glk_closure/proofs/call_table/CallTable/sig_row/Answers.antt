use Rattle.std.proofs.Common.{ℕ, ◌≡◌, ◌∙◌, sym, ap, refl, rules, length, List, subst}
use Rattle.std.proofs.lemmas.Option.{same_Some}
use Rattle.glk_closure.specs.declared.name.Name.{Name}
use Rattle.glk_closure.specs.declared.name.Signature.{Signature}
use Rattle.glk_closure.specs.declared.call.Call.TheVariants as call
use Rattle.glk_closure.specs.Reach.{Fact, Sig, Named}
use Rattle.glk_closure.specs.Rows.{Numbers, Stands}
use Rattle.glk_closure.specs.CallTable.{facts_of}
use Rattle.glk_closure.proofs.CallLemmas.{facts_push, facts_length, fits_unchanged, numbers_old, numbers_new, fresh_sig, fits_sig}
use Rattle.glk_closure.proofs.call_table.CallTable.sig_row.Goals as goal

pub returns-in-Some : goal.returns-in-Some
returns-in-Some c =
    let facts = facts_of c.self.inside.calls.items in
    let n = c.args.name.now in
    let q : Signature = record { named = c.args.named; of = c.args.of } in
    let at = (c.self.invariant.sigs q c.in-Some.row).1 (sym c.in-Some.ensures) in
    let stands : Stands facts c.args.named (Named n) = rw c.self.view_is c.requires in
    let same : Named at.0 ≡ Named n = same_Some (Named at.0) (Named n) (sym at.1 ∙ stands) in
    let bytes : at.0 ≡ n = cc in
    let Q : List ℕ → Type 0 = λ m. Stands facts c.in-Some.row (Sig m c.args.of) in
    let P : List Fact → Type 0 = λ l. Numbers l l (Sig n c.args.of) c.in-Some.row in
    subst P c.self.view_is (numbers_old facts (Sig n c.args.of) c.in-Some.row (subst Q bytes at.2))

pub invariant_of-self-2 : goal.invariant_of-self-2
invariant_of-self-2 c =
    let facts = facts_of c.self.inside.calls.items in
    let name : Name = record { bytes = c.args.name } in
    let q : Signature = record { named = c.args.named; of = c.args.of } in
    let stands : Stands facts c.args.named (Named c.args.name.now) = rw c.self.view_is c.requires in
    let size : c.in_ok-row.row ≡ length facts = facts_length c.self.inside.calls.items c.self.inside.calls.len c.in_ok-row.row (sym c.self.inside.calls.ok.0) (search rules) in
    let more = facts_push c.self.inside.calls.items c.push.new.self.items c.reserve.new.self.items (call.Sig c.args.name c.args.of) c.in_ok-push.ensures.items c.in_ok-reserve.ensures.items in
    fits_sig facts c.self.inside.names c.self.inside.signatures c.insert.new.self c.self.inside.reflection name q c.in_ok-row.row c.self.invariant stands c.in-None.ensures size c.in_ok-insert.ensures.updates.0 (facts_of c.push.new.self.items) more

pub returns : goal.returns
returns c =
    let facts = facts_of c.self.inside.calls.items in
    let name : Name = record { bytes = c.args.name } in
    let q : Signature = record { named = c.args.named; of = c.args.of } in
    let stands : Stands facts c.args.named (Named c.args.name.now) = rw c.self.view_is c.requires in
    let size : c.in_ok-row.row ≡ length facts = facts_length c.self.inside.calls.items c.self.inside.calls.len c.in_ok-row.row (sym c.self.inside.calls.ok.0) (search rules) in
    let more = facts_push c.self.inside.calls.items c.push.new.self.items c.reserve.new.self.items (call.Sig c.args.name c.args.of) c.in_ok-push.ensures.items c.in_ok-reserve.ensures.items in
    let fresh = fresh_sig facts c.self.inside.names c.self.inside.signatures c.insert.new.self c.self.inside.reflection name q c.in_ok-row.row c.self.invariant stands c.in-None.ensures size c.in_ok-insert.ensures.updates.0 in
    let P : List Fact → Type 0 = λ l. Numbers l (facts_of c.push.new.self.items) (Sig c.args.name.now c.args.of) c.in_ok-row.row in
    subst P c.self.view_is (numbers_new facts (facts_of c.push.new.self.items) (Sig c.args.name.now c.args.of) c.in_ok-row.row more size fresh)

pub invariant_of-self-in_err-insert : goal.invariant_of-self-in_err-insert
invariant_of-self-in_err-insert c =
    let facts = facts_of c.self.inside.calls.items in
    fits_unchanged facts (facts_of c.reserve.new.self.items) c.self.inside.names c.self.inside.names c.self.inside.signatures c.insert.new.self c.self.inside.reflection (ap facts_of c.in_ok-reserve.ensures.items) refl c.in_err-insert.ensures.err c.self.invariant
