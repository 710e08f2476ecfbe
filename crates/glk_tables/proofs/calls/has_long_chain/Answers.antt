use Rattle.std.proofs.Common.{◌≡◌, Bool, List, Option, ℕ, sym, subst}
use Rattle.std.specs.Prelude.{IfOk}
use Rattle.glk_tables.specs.Chains.{AreCallers}
use Rattle.glk_tables.proofs.ValueLemmas.{callers_inside, long_callers}
use Rattle.glk_tables.proofs.calls.has_long_chain.Goals as goal

pub any_long-requires-clause-inside : goal.any_long-requires-clause-inside
any_long-requires-clause-inside c =
    let P : List (Option ℕ) → Type 0 = λ xs. AreCallers c.args.info.now c.args.pcinline.now xs in
    callers_inside c.args.info.now c.args.pcinline.now c.deref.result.now (subst P (sym c.deref.ensures.value) c.in_ok-callers.ensures)

pub returns : goal.returns
returns c =
    let P : List (Option ℕ) → Type 0 = λ xs. AreCallers c.args.info.now c.args.pcinline.now xs in
    let Q : Bool → Type 0 = λ b. IfOk c.any_long.result (λ long. long ≡ b) in
    subst Q (long_callers c.args.info.now c.args.pcinline.now c.deref.result.now (subst P (sym c.deref.ensures.value) c.in_ok-callers.ensures)) c.any_long.ensures
