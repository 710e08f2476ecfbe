-- Two orders of the same tasks are equal.
use Rattle.std.proofs.Common.{◌≡◌, ◌<◌, ◌≤◌, ◌∙◌, inl, inr, ℕ, zero, suc, List, length, get_or, take, refl, sym, subst, arith, add-one}
use Rattle.std.specs.List.{Contains}
use Rattle.std.proofs.lemmas.Bool.{cases_lt}
use Rattle.std.proofs.lemmas.List.{take_all, take_more_same}
use Rattle.glk_order.specs.declared.edges.Edge.{Edge}
use Rattle.glk_order.specs.Order.{IsNext, IsOrder}

-- one task is next
one_next : (count : ℕ) (edges : List Edge) (earlier : List ℕ) (a b : ℕ) → IsNext count edges earlier a → IsNext count edges earlier b → a ≡ b
one_next count edges earlier a b first second =
    let low = first.least b second.ready in
    let high = second.least a first.ready in
    omega (arith, low, high)

-- after the same tasks the other order goes on too, with the same task
same_next : (count : ℕ) (edges : List Edge) (a b : List ℕ) → IsOrder count edges a → IsOrder count edges b → (n : ℕ) → n < length a → take n a ≡ take n b → (n < length b) × (get_or a n 0 ≡ get_or b n 0)
same_next count edges a b first second n inside same =
    let next : IsNext count edges (take n b) (get_or a n 0) = subst (λ (l : List ℕ). IsNext count edges l (get_or a n 0)) same (first.in_order n inside) in
    elim (cases_lt n (length b)) [
      | inl low ↦ (low, one_next count edges (take n b) (get_or a n 0) (get_or b n 0) next (second.in_order n low))
      | inr past ↦ (
          let there : Contains b (get_or a n 0) = second.whole (get_or a n 0) next.ready.inside in
          absurd (next.ready.later (subst (λ (l : List ℕ). Contains l (get_or a n 0)) (sym (take_all n b past)) there)))
    ]

same_front : (count : ℕ) (edges : List Edge) (a b : List ℕ) → IsOrder count edges a → IsOrder count edges b → (n : ℕ) → n ≤ length a → (n ≤ length b) × (take n a ≡ take n b)
same_front count edges a b first second zero low = (omega arith, refl)
same_front count edges a b first second (suc n) low =
    let front : (n ≤ length b) × (take n a ≡ take n b) = same_front count edges a b first second n (omega arith) in
    let inside : n < length a = omega arith in
    let next : (n < length b) × (get_or a n 0 ≡ get_or b n 0) = same_next count edges a b first second n inside front.1 in
    (omega (arith, next.0), rw add-one at (take_more_same a b n 0 inside next.0 front.1 next.1))

pub one_order : (count : ℕ) (edges : List Edge) (one other : List ℕ) → IsOrder count edges one → IsOrder count edges other → one ≡ other
one_order count edges a b first second =
    let there : (length a ≤ length b) × (take (length a) a ≡ take (length a) b) = same_front count edges a b first second (length a) (omega arith) in
    let back : (length b ≤ length a) × (take (length b) b ≡ take (length b) a) = same_front count edges b a second first (length b) (omega arith) in
    sym (take_all (length a) a (omega arith)) ∙ there.1 ∙ take_all (length a) b back.0
