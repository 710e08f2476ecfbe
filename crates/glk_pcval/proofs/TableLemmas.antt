-- The readings of a table, one step at a time.
use Rattle.std.proofs.Common.{◌≡◌, ℕ, zero, suc, ◌+◌, ◌<◌, ◌≤◌, List, [], ◌∷◌, length, drop, Some, None, cond, refl, sym, ap, ◌∙◌, arith, sub-one, add-zero}
use Rattle.std.specs.Prelude.{◌==◌}
use Rattle.glk_pcval.specs.declared.step.Next.TheVariants as next
use Rattle.glk_pcval.specs.declared.step.State.{State}
use Rattle.glk_pcval.specs.Step.{next_of, longest_varint, number_limit}
use Rattle.glk_pcval.specs.Table.{ranges_from, fault_from}
use Rattle.glk_base.proofs.VarintLemmas.{varint_of-nil}

-- bytes that belong to the step before are skipped
pub ranges_skipped : (k : ℕ) (from : State) (s : List ℕ) → ranges_from k from s ≡ ranges_from 0 from (drop k s)
unfolding ranges_from
ranges_skipped zero from s = refl
ranges_skipped (suc k) from [] = refl
ranges_skipped (suc k) from (b ∷ s) = ranges_skipped k from s

-- no bytes begin with nothing
pub next_nil : (from : State) → next_of from [] ≡ next.Broken 0
unfolding next_of
next_nil from = rw (varint_of-nil longest_varint number_limit) refl

pub ranges_go : (from state : State) (s : List ℕ) (size : ℕ) → next_of from s ≡ next.Range state size → 0 < size
    → ranges_from 0 from s ≡ (state.value, state.end) ∷ ranges_from 0 state (drop size s)
unfolding ranges_from
ranges_go from state [] size is some = let no : next.Broken 0 ≡ next.Range state size = sym (next_nil from) ∙ is in cc
ranges_go from state (b ∷ s) zero is some = absurd (omega arith)
ranges_go from state (b ∷ s) (suc size) is some = rw (is, ranges_from) (ap (λ rs. (state.value, state.end) ∷ rs) (rw sub-one (ranges_skipped size state s)))

pub ranges_stop : (from : State) (s : List ℕ) (size : ℕ) → next_of from s ≡ next.Stop size → ranges_from 0 from s ≡ []
unfolding ranges_from
ranges_stop from [] size is = refl
ranges_stop from (b ∷ s) size is = rw (is, ranges_from) refl

pub ranges_bad : (from : State) (s : List ℕ) (size : ℕ) → next_of from s ≡ next.Broken size → ranges_from 0 from s ≡ []
unfolding ranges_from
ranges_bad from [] size is = refl
ranges_bad from (b ∷ s) size is = rw (is, ranges_from) refl

pub fault_skipped : (k : ℕ) (from : State) (offset : ℕ) (s : List ℕ) → k ≤ length s → fault_from k from offset s ≡ fault_from 0 from (offset + k) (drop k s)
unfolding fault_from
fault_skipped zero from offset s inside = rw add-zero refl
fault_skipped (suc k) from offset [] inside = absurd (omega arith)
fault_skipped (suc k) from offset (b ∷ s) inside =
    let e : (offset + 1) + k ≡ offset + suc k = omega arith in
    fault_skipped k from (offset + 1) s (omega arith) ∙ ap (λ p. fault_from 0 from p (drop k s)) e

pub fault_go : (from state : State) (offset : ℕ) (s : List ℕ) (size : ℕ) → next_of from s ≡ next.Range state size → 0 < size → size ≤ length s
    → fault_from 0 from offset s ≡ fault_from 0 state (offset + size) (drop size s)
unfolding fault_from
fault_go from state offset s zero is some inside = absurd (omega arith)
fault_go from state offset [] (suc size) is some inside = absurd (omega arith)
fault_go from state offset (b ∷ s) (suc size) is some inside =
    let e : (offset + 1) + size ≡ offset + suc size = omega arith in
    rw (is, fault_from) (rw sub-one (fault_skipped size state (offset + 1) s (omega arith) ∙ ap (λ p. fault_from 0 state p (drop size s)) e))

pub fault_stop : (from : State) (offset : ℕ) (s : List ℕ) (size : ℕ) → next_of from s ≡ next.Stop size → fault_from 0 from offset s ≡ cond (length s == size) None (Some (offset + size))
unfolding fault_from
fault_stop from offset [] size is = let no : next.Broken 0 ≡ next.Stop size = sym (next_nil from) ∙ is in cc
fault_stop from offset (b ∷ s) size is = rw (is, fault_from) refl

pub fault_bad : (from : State) (offset : ℕ) (s : List ℕ) (size : ℕ) → next_of from s ≡ next.Broken size → fault_from 0 from offset s ≡ Some (offset + size)
unfolding fault_from
fault_bad from offset [] size is =
    let e : next.Broken 0 ≡ next.Broken size = sym (next_nil from) ∙ is in
    let z : 0 ≡ size = cc in rw (← z) (rw add-zero refl)
fault_bad from offset (b ∷ s) size is = rw (is, fault_from) refl
