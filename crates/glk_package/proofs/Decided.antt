-- Facts that are decided, and where the least number with a property is.
use Rattle.std.proofs.Common.{◌≡◌, ◌<◌, ◌≤◌, ◌⊎◌, inl, inr, ℕ, zero, suc, Bool, true, false, true≢false, MatchBool, List, arith, subst, sym, refl}
use Rattle.std.specs.Str.{bytes_eq}
use Rattle.std.specs.Cmp.Lexicographic.{bytes_decides}
use Rattle.std.proofs.lemmas.Bool.{cases_lt, false≢true}
use Rattle.glk_base.specs.Least.{Nowhere, IsLeast, BadRecord, InSomeGroup}
use Rattle.glk_base.specs.Rules.{IsIntact, FirstBroken}

-- a fact holds, or it does not
abbrev pub IsDecided : Type 0 → Type 0
IsDecided A = A ⊎ (A → ⊥)

pub all_of : (A B : Type 0) → IsDecided A → IsDecided B → IsDecided (A × B)
all_of A B (inl a) (inl b) = inl (a, b)
all_of A B (inl a) (inr b) = inr (λ h. b h.1)
all_of A B (inr a) d = inr (λ h. a h.0)

pub one_of : (A B : Type 0) → IsDecided A → IsDecided B → IsDecided (A ⊎ B)
one_of A B (inl a) d = inl (inl a)
one_of A B (inr a) (inl b) = inl (inr b)
one_of A B (inr a) (inr b) = inr none
  where
    none : A ⊎ B → ⊥
    none (inl x) = a x
    none (inr y) = b y

pub negated : (A : Type 0) → IsDecided A → IsDecided (A → ⊥)
negated A (inl a) = inr (λ n. n a)
negated A (inr n) = inl n

pub below : (m n : ℕ) → IsDecided (m < n)
below m n = elim (cases_lt m n) [ inl less ↦ inl less | inr more ↦ inr (λ less. omega arith) ]

pub at_most : (m n : ℕ) → IsDecided (m ≤ n)
at_most m n = elim (cases_lt n m) [ inl more ↦ inr (λ less. omega arith) | inr less ↦ inl less ]

pub is_true : (b : Bool) → IsDecided (b ≡ true)
is_true true = inl refl
is_true false = inr false≢true

pub is_false : (b : Bool) → IsDecided (b ≡ false)
is_false true = inr true≢false
is_false false = inl refl

pub if_same : (A B : Type 0) → (A → B) → (B → A) → IsDecided A → IsDecided B
if_same A B to from (inl a) = inl (to a)
if_same A B to from (inr n) = inr (λ b. n (from b))

pub same_bytes : (xs ys : List ℕ) → IsDecided (xs ≡ ys)
same_bytes xs ys =
    let test = bytes_decides xs ys in
    if_same (bytes_eq xs ys ≡ true) (xs ≡ ys) test.0 test.1 (is_true (bytes_eq xs ys))

pub matched : (t : Bool) (A B : Type 0) → IsDecided A → IsDecided B → IsDecided (MatchBool t A B)
matched true A B a b = a
matched false A B a b = b

-- some number below n has the property, or none
pub some_below : (n : ℕ) (P : ℕ → Type 0) → ((k : ℕ) → IsDecided (P k)) → IsDecided ((k : ℕ) × (k < n) × P k)
some_below zero P each = inr (λ h. omega (arith, h.1))
some_below (suc n) P each = step (each n) (some_below n P each)
  where
    step : IsDecided (P n) → IsDecided ((k : ℕ) × (k < n) × P k) → IsDecided ((k : ℕ) × (k < suc n) × P k)
    step (inl p) d = inl (n, omega arith, p)
    step (inr not_n) (inl h) = inl (h.0, omega (arith, h.1), h.2)
    step (inr not_n) (inr none) = inr (λ h. elim (cases_lt h.0 n) [
      | inl less ↦ none (h.0, less, h.2)
      | inr more ↦ let e : h.0 ≡ n = omega (arith, h.1) in not_n (subst P e h.2)
    ])

-- the property has a least number, or no number has it
abbrev pub HasLeast : (ℕ → Type 0) → Type 0
HasLeast P = ((n : ℕ) × IsLeast P n) ⊎ Nowhere P

pub same_least : (P Q : ℕ → Type 0) → ((k : ℕ) → P k → Q k) → ((k : ℕ) → Q k → P k) → HasLeast P → HasLeast Q
same_least P Q to from (inl (n, l)) = inl (n, record { holds = to n l.holds; least = λ k q. l.least k (from k q) })
same_least P Q to from (inr none) = inr (λ k q. none k (from k q))

low_first : (P Q : ℕ → Type 0) (m n : ℕ) → IsLeast P m → IsLeast Q n → m ≤ n → IsLeast (λ k. P k ⊎ Q k) m
low_first P Q m n l r low = record { holds = inl l.holds; least = each }
  where
    each : (k : ℕ) → P k ⊎ Q k → m ≤ k
    each k (inl p) = l.least k p
    each k (inr q) = let h = r.least k q in omega (arith, h, low)

low_second : (P Q : ℕ → Type 0) (m n : ℕ) → IsLeast P m → IsLeast Q n → n ≤ m → IsLeast (λ k. P k ⊎ Q k) n
low_second P Q m n l r low = record { holds = inr r.holds; least = each }
  where
    each : (k : ℕ) → P k ⊎ Q k → n ≤ k
    each k (inl p) = let h = l.least k p in omega (arith, h, low)
    each k (inr q) = r.least k q

pub least_either : (P Q : ℕ → Type 0) → HasLeast P → HasLeast Q → HasLeast (λ k. P k ⊎ Q k)
least_either P Q (inl (m, l)) (inl (n, r)) = elim (cases_lt n m) [
  | inl less ↦ inl (n, low_second P Q m n l r (omega arith))
  | inr more ↦ inl (m, low_first P Q m n l r more)
]
least_either P Q (inl (m, l)) (inr none) = inl (m, record { holds = inl l.holds; least = each })
  where
    each : (k : ℕ) → P k ⊎ Q k → m ≤ k
    each k (inl p) = l.least k p
    each k (inr q) = absurd (none k q)
least_either P Q (inr none) (inl (n, r)) = inl (n, record { holds = inr r.holds; least = each })
  where
    each : (k : ℕ) → P k ⊎ Q k → n ≤ k
    each k (inl p) = absurd (none k p)
    each k (inr q) = r.least k q
least_either P Q (inr none) (inr empty) = inr each
  where
    each : (k : ℕ) → P k ⊎ Q k → ⊥
    each k (inl p) = none k p
    each k (inr q) = empty k q

pub least_at : (A : Type 0) (n : ℕ) → IsDecided A → HasLeast (λ k. A × (k ≡ n))
least_at A n (inl a) = inl (n, record { holds = (a, refl); least = λ k h. omega (arith, h.1) })
least_at A n (inr none) = inr (λ k h. none h.0)

pub least_match : (t : Bool) (P Q : ℕ → Type 0) → HasLeast P → HasLeast Q → HasLeast (λ k. MatchBool t (P k) (Q k))
least_match true P Q p q = p
least_match false P Q p q = q

-- over records
pub least_record : (n : ℕ) (offset : ℕ → ℕ) (Bad : ℕ → Type 0) → ((i : ℕ) → IsDecided (Bad i)) → HasLeast (BadRecord n offset Bad)
least_record zero offset Bad each = inr (λ k h. omega (arith, h.inside))
least_record (suc n) offset Bad each =
    same_least (λ k. BadRecord n offset Bad k ⊎ (Bad n × (k ≡ offset n))) (BadRecord (suc n) offset Bad) to from
    (least_either (BadRecord n offset Bad) (λ k. Bad n × (k ≡ offset n)) (least_record n offset Bad each) (least_at (Bad n) (offset n) (each n)))
  where
    to : (k : ℕ) → BadRecord n offset Bad k ⊎ (Bad n × (k ≡ offset n)) → BadRecord (suc n) offset Bad k
    to k (inl h) = record { index = h.index; inside = omega (arith, h.inside); at = h.at; bad = h.bad }
    to k (inr h) = record { index = n; inside = omega arith; at = h.1; bad = h.0 }

    from : (k : ℕ) → BadRecord (suc n) offset Bad k → BadRecord n offset Bad k ⊎ (Bad n × (k ≡ offset n))
    from k h = elim (cases_lt h.index n) [
      | inl less ↦ inl (record { index = h.index; inside = less; at = h.at; bad = h.bad })
      | inr more ↦
          let e : h.index ≡ n = omega (arith, h.inside) in
          inr (subst Bad e h.bad, subst (λ (i : ℕ). k ≡ offset i) e h.at)
    ]

-- of numbers that are all below n
pub least_below : (n : ℕ) (P : ℕ → Type 0) → ((k : ℕ) → IsDecided (P k)) → ((k : ℕ) → P k → k < n) → HasLeast P
least_below n P each bound =
    same_least (BadRecord n (λ i. i) P) P (λ k h. subst P (sym h.at) h.bad) (λ k p. record { index = k; inside = bound k p; at = refl; bad = p })
    (least_record n (λ i. i) P each)

-- over groups of records
least_up_to : (m : ℕ) (In : ℕ → Type 0) (Fault : ℕ → ℕ → Type 0) → ((t : ℕ) → IsDecided (In t)) → ((t : ℕ) → HasLeast (Fault t)) → HasLeast (InSomeGroup (λ t. In t × (t < m)) Fault)
least_up_to zero In Fault in_one each = inr (λ k h. omega (arith, h.among.1))
least_up_to (suc m) In Fault in_one each = step (in_one m) (least_up_to m In Fault in_one each)
  where
    to : In m → (k : ℕ) → InSomeGroup (λ t. In t × (t < m)) Fault k ⊎ Fault m k → InSomeGroup (λ t. In t × (t < suc m)) Fault k
    to among k (inl h) = record { group = h.group; among = (h.among.0, omega (arith, h.among.1)); fault = h.fault }
    to among k (inr h) = record { group = m; among = (among, omega arith); fault = h }

    from : (k : ℕ) → InSomeGroup (λ t. In t × (t < suc m)) Fault k → InSomeGroup (λ t. In t × (t < m)) Fault k ⊎ Fault m k
    from k h = elim (cases_lt h.group m) [
      | inl less ↦ inl (record { group = h.group; among = (h.among.0, less); fault = h.fault })
      | inr more ↦
          let e : h.group ≡ m = omega (arith, h.among.1) in
          inr (subst (λ (t : ℕ). Fault t k) e h.fault)
    ]

    alone : (In m → ⊥) → (k : ℕ) → InSomeGroup (λ t. In t × (t < suc m)) Fault k → InSomeGroup (λ t. In t × (t < m)) Fault k
    alone out k h = elim (cases_lt h.group m) [
      | inl less ↦ record { group = h.group; among = (h.among.0, less); fault = h.fault }
      | inr more ↦ let e : h.group ≡ m = omega (arith, h.among.1) in absurd (out (subst In e h.among.0))
    ]

    step : IsDecided (In m) → HasLeast (InSomeGroup (λ t. In t × (t < m)) Fault) → HasLeast (InSomeGroup (λ t. In t × (t < suc m)) Fault)
    step (inl among) before =
        same_least (λ k. InSomeGroup (λ t. In t × (t < m)) Fault k ⊎ Fault m k) (InSomeGroup (λ t. In t × (t < suc m)) Fault) (to among) from
        (least_either (InSomeGroup (λ t. In t × (t < m)) Fault) (Fault m) before (each m))
    step (inr out) before =
        same_least (InSomeGroup (λ t. In t × (t < m)) Fault) (InSomeGroup (λ t. In t × (t < suc m)) Fault)
        (λ k h. record { group = h.group; among = (h.among.0, omega (arith, h.among.1)); fault = h.fault }) (alone out) before

pub least_group : (n : ℕ) (In : ℕ → Type 0) (Fault : ℕ → ℕ → Type 0) → ((t : ℕ) → IsDecided (In t)) → ((t : ℕ) → HasLeast (Fault t)) → ((t : ℕ) → In t → t < n) → HasLeast (InSomeGroup In Fault)
least_group n In Fault in_one each bound =
    same_least (InSomeGroup (λ t. In t × (t < n)) Fault) (InSomeGroup In Fault)
    (λ k h. record { group = h.group; among = h.among.0; fault = h.fault })
    (λ k h. record { group = h.group; among = (h.among, bound h.group h.among); fault = h.fault })
    (least_up_to n In Fault in_one each)

-- over rules in their order
pub first_rule : (Breaks : ℕ → ℕ → Type 0) → ((rule : ℕ) → HasLeast (Breaks rule)) → (n : ℕ) → ((rule : ℕ) × (offset : ℕ) × FirstBroken Breaks rule offset) ⊎ IsIntact Breaks n
first_rule Breaks each zero = start (each 0)
  where
    start : HasLeast (Breaks 0) → ((rule : ℕ) × (offset : ℕ) × FirstBroken Breaks rule offset) ⊎ IsIntact Breaks 0
    start (inl (o, l)) = inl (0, o, record { before = λ k place small broken. omega (arith, small); here = l })
    start (inr none) = inr (record {
      no = λ rule offset small broken.
          let e : rule ≡ 0 = omega (arith, small) in
          let P : ℕ → Type 0 = λ r. Breaks r offset in none offset (subst P e broken);
    })
first_rule Breaks each (suc n) = go (first_rule Breaks each n) (each (suc n))
  where
    go : ((rule : ℕ) × (offset : ℕ) × FirstBroken Breaks rule offset) ⊎ IsIntact Breaks n → HasLeast (Breaks (suc n))
        → ((rule : ℕ) × (offset : ℕ) × FirstBroken Breaks rule offset) ⊎ IsIntact Breaks (suc n)
    go (inl found) l = inl found
    go (inr intact) (inl (o, l)) = inl (suc n, o, record { before = λ k place small broken. intact.no k place (omega (arith, small)) broken; here = l })
    go (inr intact) (inr none) = inr (record {
      no = λ rule offset small broken. elim (cases_lt rule (suc n)) [
        | inl less ↦ intact.no rule offset (omega arith) broken
        | inr more ↦
            let e : rule ≡ suc n = omega (arith, small) in
            let P : ℕ → Type 0 = λ r. Breaks r offset in none offset (subst P e broken)
      ];
    })
