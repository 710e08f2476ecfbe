-- Lists in order: a task more at the end, and marks for what is listed.
use Rattle.std.proofs.Common.{◌≡◌, ◌+◌, ◌<◌, ◌∙◌, ◌++◌, inl, inr, ℕ, Bool, true, false, cond, not, List, [], ◌∷◌, length, get_or, take, set, replicate, refl, ap, sym, subst, arith}
use Rattle.std.specs.List.{Contains, count_by}
use Rattle.std.proofs.lemmas.Bool.{both_ways, cases_eq, cases_lt}
use Rattle.std.proofs.lemmas.List.{get_or-set_same, get_or-set_other, take_at, take-append-le, length_push, get_or-replicate, get_or_past, length-replicate}
use Rattle.std.proofs.lemmas.List.Elements.{Contains-append_left, Contains-push, Contains-push_cases}
use Rattle.std.proofs.lemmas.List.Sums.{sum_by-set}
use Rattle.glk_order.specs.declared.edges.Edge.{Edge}
use Rattle.glk_order.specs.Order.{Needs, IsReady, IsNext, InOrder}
use Rattle.glk_order.specs.Progress.{is_listed, AreMarks}
use Rattle.glk_order.proofs.Pushes.{at_front, at_end}

-- the next task is pushed
pub InOrder-push : (count : ℕ) (edges : List Edge) (list : List ℕ) (t : ℕ) → InOrder count edges list → IsNext count edges list t → InOrder count edges (list ++ t ∷ [])
InOrder-push count edges list t order next = λ i inside. elim (cases_lt i (length list)) [
  | inl low ↦ (
      let first : IsNext count edges (take i (list ++ t ∷ [])) (get_or list i 0) =
      subst (λ (l : List ℕ). IsNext count edges l (get_or list i 0)) (sym (take-append-le i list (t ∷ []) (omega arith))) (order i low) in
      subst (IsNext count edges (take i (list ++ t ∷ []))) (sym (at_front list t i low)) first)
  | inr high ↦ (
      let last : length list ≡ i = omega (arith, length_push list t) in
      let whole : take (length list) (list ++ t ∷ []) ≡ list = take_at list (t ∷ []) (length list) refl in
      let here : IsNext count edges (take (length list) (list ++ t ∷ [])) t = subst (λ (l : List ℕ). IsNext count edges l t) (sym whole) next in
      let there : IsNext count edges (take (length list) (list ++ t ∷ [])) (get_or (list ++ t ∷ []) (length list) 0) = subst (IsNext count edges (take (length list) (list ++ t ∷ []))) (sym (at_end list t)) here in
      subst (λ n. IsNext count edges (take n (list ++ t ∷ [])) (get_or (list ++ t ∷ []) n 0)) last there)
]

pub AreMarks-push : (marks : List Bool) (list : List ℕ) (t : ℕ) → t < length marks → AreMarks marks list → AreMarks (set marks t true) (list ++ t ∷ [])
AreMarks-push marks list t l a = record {
  marked = λ u c. elim (Contains-push_cases list t u c) [
    | inl b ↦ stays u (a.marked u b)
    | inr e ↦ subst (λ x. get_or (set marks t true) x false ≡ true) e (get_or-set_same marks t true false l)
  ];
  contained = λ u h. elim (cases_eq u t) [
    | inl e ↦ subst (Contains (list ++ t ∷ [])) (sym e) (Contains-push list t)
    | inr ne ↦ Contains-append_left list (t ∷ []) u (a.contained u (sym (get_or-set_other marks t u true false ne) ∙ h))
  ];
}
  where
    stays : (u : ℕ) → get_or marks u false ≡ true → get_or (set marks t true) u false ≡ true
    stays u h = elim (cases_eq u t) [
      | inl e ↦ subst (λ x. get_or (set marks t true) x false ≡ true) (sym e) (get_or-set_same marks t true false l)
      | inr ne ↦ get_or-set_other marks t u true false ne ∙ h
    ]

-- nothing is marked at the start
pub none_marked : (n k : ℕ) → get_or (replicate n false) k false ≡ false
none_marked n k = elim (cases_lt k n) [ inl l ↦ get_or-replicate n k false false l | inr g ↦ get_or_past (replicate n false) k false (rw length-replicate g) ]

pub AreMarks-start : (n : ℕ) (list : List ℕ) → list ≡ [] → AreMarks (replicate n false) list
AreMarks-start n list empty = record {
  marked = λ t c. let none : length list ≡ 0 = ap length empty in absurd (omega (arith, c.1, none));
  contained = λ t h. absurd (both_ways (get_or (replicate n false) t false) (none_marked n t) h);
}

-- one mark more
pub fewer : (marks : List Bool) (t : ℕ) → t < length marks → get_or marks t false ≡ false → count_by not (set marks t true) + 1 ≡ count_by not marks
fewer marks t l e =
    let s = sum_by-set (λ (x : Bool). cond (not x) 1 0) marks t true false l in
    let one = ap (λ (b : Bool). cond {A = ℕ} (not b) 1 0) e in
    omega (arith, s, one)

-- the marks of a list tell what is ready
pub ready_listed : (count : ℕ) (edges : List Edge) (marks : List Bool) (list : List ℕ) (t : ℕ) → AreMarks marks list → t < count → is_listed marks t ≡ false
    → ((u : ℕ) → Needs edges t u → is_listed marks u ≡ true) → IsReady count edges list t
ready_listed count edges marks list t a inside unlisted all = record {
  inside = inside;
  later = λ c. both_ways (is_listed marks t) unlisted (a.marked t c);
  targets = λ u need. a.contained u (all u need);
}
