-- Single bytes, and the bytes before a zero.
use Rattle.std.proofs.Common.{◌≡◌, ◌∙◌, ℕ, zero, suc, ◌+◌, ◌<◌, ◌==◌, List, [], ◌∷◌, length, take, drop, get_or, Some, None, Option, true, false, refl, ap, arith}
use Rattle.std.proofs.lemmas.List.{get_or-drop}
use Rattle.glk_base.specs.Bytes.{number_at}
use Rattle.glk_frames.specs.Region.{ended_by_zero}

pub byte_number : (r : List ℕ) (at : ℕ) → get_or r at 0 ≡ number_at 1 r at
unfolding number_at
byte_number r at =
    let e : get_or (drop at r) 0 0 ≡ get_or r (at + 0) 0 = get_or-drop at r 0 0 in
    let same : at + 0 ≡ at = omega arith in
    let here : get_or (drop at r) 0 0 ≡ get_or r at 0 = e ∙ ap (λ (k : ℕ). get_or r k 0) same in
    omega (arith, here)

-- the first zero byte ends the name
pub zero_first : (xs : List ℕ) (end : ℕ) → end < length xs → ((k : ℕ) → k < end → (get_or xs k 0 == 0) ≡ true → ⊥) → (get_or xs end 0 == 0) ≡ true
    → Some (take end xs) ≡ ended_by_zero xs
unfolding ended_by_zero
zero_first [] end inside before here = absurd (omega arith)
zero_first (x ∷ xs) zero inside before here = rw here refl
zero_first (x ∷ xs) (suc end) inside before here =
    let other : (x == 0) ≡ false = elim (x == 0) as (λ b. (b ≡ true → ⊥) → b ≡ false) [ true ↦ λ no. absurd (no refl) | false ↦ λ no. refl ] (before 0 (omega arith)) in
    let rest : Some (take end xs) ≡ ended_by_zero xs = zero_first xs end (omega arith) (λ k below. before (suc k) (omega arith)) here in
    rw (other, ← rest) refl

-- without a zero byte there is none
pub zero_nowhere : (xs : List ℕ) → ((k : ℕ) → k < length xs → (get_or xs k 0 == 0) ≡ true → ⊥) → ◌≡◌ {A = Option (List ℕ)} None (ended_by_zero xs)
unfolding ended_by_zero
zero_nowhere [] nowhere = refl
zero_nowhere (x ∷ xs) nowhere =
    let other : (x == 0) ≡ false = elim (x == 0) as (λ b. (b ≡ true → ⊥) → b ≡ false) [ true ↦ λ no. absurd (no refl) | false ↦ λ no. refl ] (nowhere 0 (omega arith)) in
    let rest : ◌≡◌ {A = Option (List ℕ)} None (ended_by_zero xs) = zero_nowhere xs (λ k below. nowhere (suc k) (omega arith)) in
    rw (other, ← rest) refl
