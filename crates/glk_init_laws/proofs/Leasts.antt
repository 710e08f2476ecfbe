-- Tasks are compared by a total order, and of those of a list that pass a test one is least.
use Rattle.std.proofs.Common.{◌≡◌, ◌∙◌, ℕ, true, List, [], ◌∷◌, ◌⊎◌, inl, inr, refl, sym, ap, subst, true≢false}
use Rattle.std.specs.Cmp.{IsTotalOrder, nat_cmp_total, on_total, then_total}
use Rattle.std.specs.Cmp.Lexicographic.{nat_list_cmp_total}
use Rattle.std.specs.List.{Contains}
use Rattle.std.specs.Ordering.{ordering_reverse, is_le}
use Rattle.std.specs.declared.cmp.Ordering.{Ordering}
use Rattle.std.specs.declared.cmp.Ordering.TheVariants.{Less, Equal, Greater}
use Rattle.glk_closure.proofs.Derivations.{Contains-cons_cases, Contains-head, Contains-nil}
use Rattle.glk_closure_laws.proofs.Clauses.{in_tail}
use Rattle.glk_init.specs.Graph.{InitGraph}
use Rattle.glk_init.specs.Order.{IsNotAfter, task_cmp}

tasks_total : (g : InitGraph) → IsTotalOrder (task_cmp g)
tasks_total g = then_total (on_total g.name nat_list_cmp_total) (on_total g.position nat_cmp_total)

one_way : (o r : Ordering) → r ≡ ordering_reverse o → (is_le o ≡ true) ⊎ (is_le r ≡ true)
one_way Less r e = inl refl
one_way Equal r e = inl refl
one_way Greater r e = inr (ap is_le e)

-- of two tasks one is not after the other
pub not_after : (g : InitGraph) (a b : ℕ) → IsNotAfter g a b ⊎ IsNotAfter g b a
not_after g a b = one_way (task_cmp g a b) (task_cmp g b a) ((tasks_total g).antisymm b a)

reversed : (o r : Ordering) → o ≡ ordering_reverse r → r ≡ ordering_reverse o
reversed o Less e = ap ordering_reverse (sym e)
reversed o Equal e = ap ordering_reverse (sym e)
reversed o Greater e = ap ordering_reverse (sym e)

pub not_after_through : (g : InitGraph) (a b c : ℕ) → IsNotAfter g a b → IsNotAfter g b c → IsNotAfter g a c
not_after_through g a b c first second = by (task_cmp g a b) refl (task_cmp g b c) refl first second
  where
    by : (p : Ordering) → p ≡ task_cmp g a b → (q : Ordering) → q ≡ task_cmp g b c → is_le p ≡ true → is_le q ≡ true → IsNotAfter g a c
    by Less e Less k h i = ap is_le ((tasks_total g).trans a b c (sym e) (sym k))
    by Equal e q k h i = subst (λ (o : Ordering). is_le o ≡ true) (k ∙ sym ((tasks_total g).congr a b c (sym e))) i
    by Less e Equal k h i =
        let back : task_cmp g c b ≡ Equal = (tasks_total g).antisymm c b ∙ ap ordering_reverse (sym k) in
        let same : task_cmp g c a ≡ task_cmp g b a = (tasks_total g).congr c b a back in
        ap is_le ((tasks_total g).antisymm a c ∙ ap ordering_reverse same ∙ sym ((tasks_total g).antisymm a b) ∙ sym e)
    by Less e Greater k h i = absurd (true≢false (sym i))
    by Greater e q k h i = absurd (true≢false (sym h))

-- of the tasks of a list that are such, one that is not after any other
pub record IsLeastOf (g : InitGraph) (P : ℕ → Type 0) (list : List ℕ) (k : ℕ) : Type 0 where
  pub listed : Contains list k
  pub holds : P k
  pub least : (other : ℕ) → Contains list other → P other → IsNotAfter g k other

abbrev pub Has : InitGraph → (ℕ → Type 0) → List ℕ → Type 0
Has g P list = ((k : ℕ) × IsLeastOf g P list k) ⊎ ((k : ℕ) → Contains list k → P k → ⊥)

module _ (g : InitGraph) (P : ℕ → Type 0) (test : (k : ℕ) → P k ⊎ (P k → ⊥)) where
  alone : (x : ℕ) (xs : List ℕ) → P x → ((k : ℕ) → Contains xs k → P k → ⊥) → IsLeastOf g P (x ∷ xs) x
  alone x xs holds none = record {
    listed = Contains-head x xs;
    holds = holds;
    least = λ other c h. elim (Contains-cons_cases x xs other c) [
      | inl e ↦ subst (λ o. IsNotAfter g x o) e (elim (not_after g x x) [ inl a ↦ a | inr a ↦ a ])
      | inr later ↦ absurd (none other later h)
    ];
  }

  behind : (x k : ℕ) (xs : List ℕ) → IsLeastOf g P xs k → (P x → IsNotAfter g k x) → IsLeastOf g P (x ∷ xs) k
  behind x k xs is up = record {
    listed = in_tail x xs k is.listed;
    holds = is.holds;
    least = λ other c h. elim (Contains-cons_cases x xs other c) [
      | inl e ↦ subst (λ o. IsNotAfter g k o) e (up (subst P (sym e) h))
      | inr later ↦ is.least other later h
    ];
  }

  before : (x k : ℕ) (xs : List ℕ) → IsLeastOf g P xs k → P x → IsNotAfter g x k → IsLeastOf g P (x ∷ xs) x
  before x k xs is holds low = record {
    listed = Contains-head x xs;
    holds = holds;
    least = λ other c h. elim (Contains-cons_cases x xs other c) [
      | inl e ↦ subst (λ o. IsNotAfter g x o) e (elim (not_after g x x) [ inl a ↦ a | inr a ↦ a ])
      | inr later ↦ not_after_through g x k other low (is.least other later h)
    ];
  }

  -- of the tasks of a list that pass a test one is least
  pub least_of : (list : List ℕ) → Has g P list
  least_of [] = inr (λ k c h. Contains-nil k c)
  least_of (x ∷ xs) = elim (test x) [
    | inr fails ↦ elim (least_of xs) [
      | inl one ↦ inl (one.0, behind x one.0 xs one.1 (λ h. absurd (fails h)))
      | inr none ↦ inr (λ k c h. elim (Contains-cons_cases x xs k c) [ inl e ↦ fails (subst P (sym e) h) | inr later ↦ none k later h ])
    ]
    | inl holds ↦ elim (least_of xs) [
      | inr none ↦ inl (x, alone x xs holds none)
      | inl one ↦ elim (not_after g x one.0) [
        | inl low ↦ inl (x, before x one.0 xs one.1 holds low)
        | inr high ↦ inl (one.0, behind x one.0 xs one.1 (λ h. high))
      ]
    ]
  ]
