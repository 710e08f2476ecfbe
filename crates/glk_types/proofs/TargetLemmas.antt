-- What a search by halves finds.
use Rattle.std.proofs.Common.{◌≡◌, ◌≢◌, ◌<◌, ℕ, zero, suc, List, [], ◌∷◌, Some, None, length, get_or, refl, arith, ltb, true, false, ◌∙◌, inl, inr}
use Rattle.std.specs.List.Sorted.{IsNonDecreasingBy, IsPartitionPoint}
use Rattle.std.proofs.lemmas.Bool.{cases_lt, ltb-true, ltb-false}
use Rattle.std.proofs.lemmas.Bool.Decides.{nat_tests}
use Rattle.glk_types.specs.Targets.{target_of}

-- the first entry's offset is another
target_past : (entry : ℕ × ℕ) (at : List (ℕ × ℕ)) (offset : ℕ) → entry.0 ≢ offset → target_of (entry ∷ at) offset ≡ target_of at offset
unfolding target_of
target_past entry at offset other = grind (arith, nat_tests)

-- the first entry's offset is this one
target_here : (entry : ℕ × ℕ) (at : List (ℕ × ℕ)) (offset : ℕ) → entry.0 ≡ offset → target_of (entry ∷ at) offset ≡ Some entry.1
unfolding target_of
target_here entry at offset same = grind (arith, nat_tests)

pub found : (at : List (ℕ × ℕ)) (offset i : ℕ) (d : ℕ × ℕ) → i < length at → ((k : ℕ) → k < i → (get_or at k d).0 < offset) → (get_or at i d).0 ≡ offset → target_of at offset ≡ Some (get_or at i d).1
found [] offset i d inside before here = absurd (omega arith)
found (entry ∷ at) offset zero d inside before here = target_here entry at offset here
found (entry ∷ at) offset (suc i) d inside before here =
    target_past entry at offset (λ same. absurd (omega (arith, before 0 (omega arith), same)))
    ∙ found at offset i d (omega arith) (λ k below. before (suc k) (omega arith)) here

pub absent : (at : List (ℕ × ℕ)) (offset : ℕ) (d : ℕ × ℕ) → ((k : ℕ) → k < length at → (get_or at k d).0 ≢ offset) → target_of at offset ≡ None
unfolding target_of
absent [] offset d other = refl
absent (entry ∷ at) offset d other =
    target_past entry at offset (λ same. other 0 (omega arith) same)
    ∙ absent at offset d (λ k below. other (suc k) (omega arith))

-- no entry has the offset, where the first that isn't below it is another
pub absent_beside : (at : List (ℕ × ℕ)) (offset i : ℕ) → IsNonDecreasingBy (λ entry. entry.0) at → IsPartitionPoint (λ entry. ltb entry.0 offset ≡ true) (λ entry. ltb entry.0 offset ≡ false) at i → (get_or at i (0, 0)).0 ≢ offset → target_of at offset ≡ None
absent_beside at offset i rises point other =
    absent at offset (0, 0) (λ k inside same.
    elim (cases_lt k i) [
      | inl below ↦ absurd (omega (arith, same, ltb-true _ _ (point.0 k (0, 0) (omega arith) below)))
      | inr above ↦ absurd (other (omega (arith, same, rises i k (0, 0) above inside, ltb-false _ _ (point.1 i (0, 0) (omega arith) (omega arith)))))
    ])
