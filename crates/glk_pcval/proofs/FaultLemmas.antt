-- The offset that is wrong, from where a table has been read to.
use Rattle.std.proofs.Common.{◌≡◌, ◌≢◌, ℕ, ◌+◌, ◌-◌, ◌<◌, ◌≤◌, List, length, drop, Some, None, cond, sym, ap, ◌∙◌, arith, eq-eqb, true, false}
use Rattle.std.specs.Prelude.{◌==◌}
use Rattle.std.proofs.lemmas.List.{length-drop, drop-drop}
use Rattle.glk_pcval.specs.declared.step.Next.TheVariants as next
use Rattle.glk_pcval.specs.declared.step.State.{State}
use Rattle.glk_pcval.specs.Step.{next_of}
use Rattle.glk_pcval.specs.Table.{fault_from, fault}
use Rattle.glk_pcval.proofs.TableLemmas.{fault_go, fault_stop, fault_bad}

pub here_bad : (t : List ℕ) (from : State) (at size : ℕ) → fault_from 0 from at (drop at t) ≡ fault t → next_of from (drop at t) ≡ next.Broken size → fault t ≡ Some (at + size)
here_bad t from at size same is = sym same ∙ fault_bad from at (drop at t) size is

pub here_end : (t : List ℕ) (from : State) (at size : ℕ) → fault_from 0 from at (drop at t) ≡ fault t → next_of from (drop at t) ≡ next.Stop size → length t - at ≡ size → fault t ≡ None
here_end t from at size same is e =
    let whole : length (drop at t) ≡ size = length-drop at t ∙ e in
    let yes : (length (drop at t) == size) ≡ true = eq-eqb (length (drop at t)) size whole in
    sym same ∙ fault_stop from at (drop at t) size is ∙ ap (λ b. cond b None (Some (at + size))) yes

pub here_more : (t : List ℕ) (from : State) (at size : ℕ) → fault_from 0 from at (drop at t) ≡ fault t → next_of from (drop at t) ≡ next.Stop size → length t - at ≢ size → fault t ≡ Some (at + size)
here_more t from at size same is e =
    let l = length-drop at t in
    let no : (length (drop at t) == size) ≡ false = grind (arith, l, e) in
    sym same ∙ fault_stop from at (drop at t) size is ∙ ap (λ b. cond b None (Some (at + size))) no

pub here_go : (t : List ℕ) (from state : State) (at size : ℕ) → at ≤ length t → fault_from 0 from at (drop at t) ≡ fault t → next_of from (drop at t) ≡ next.Range state size
    → (0 < size) × (size ≤ length (drop at t)) → (at + size ≤ length t) × (fault_from 0 state (at + size) (drop (at + size) t) ≡ fault t)
here_go t from state at size inside same is goes =
    let l = length-drop at t in
    let e : fault_from 0 from at (drop at t) ≡ fault_from 0 state (at + size) (drop size (drop at t)) = fault_go from state at (drop at t) size is goes.0 goes.1 in
    (omega (arith, l), ap (λ s. fault_from 0 state (at + size) s) (sym (drop-drop size at t)) ∙ sym e ∙ same)
