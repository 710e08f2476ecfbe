-- Which definition of a key is chosen, and which of its definitions clash, in words of an order of definitions.
use Rattle.std.proofs.Common.{◌≡◌, ℕ, ◌^◌, ◌<◌, ◌≤◌, ◌⊎◌, List, [], Bool, true, false, Some, None, inl, inr, refl, sym, ap, ◌∙◌, subst, arith, true≢false}
use Rattle.std.specs.Prelude.{◌&&◌, ◌==◌, nat_le, if◌then◌else◌}
use Rattle.std.specs.List.{filter}
use Rattle.std.specs.Option.{option_or}
use Rattle.std.proofs.lemmas.Bool.{eqb-true, eq-eqb}
use Rattle.std.proofs.lemmas.Bool.Decides.{nat_tests}
use Rattle.glk_table.specs.Ranks.{IsBefore}
use Rattle.glk_table.specs.declared.ranks.RankClass.{RankClass}
use Rattle.glk_table.specs.declared.ranks.RankClass.TheVariants.{Strong, Shared, Other}
use Rattle.glk_keys.proofs.Ranges.{first_filter, find_filter, filter_filter, find_none, find_least, filter_none, all_pass, some_fails}
use Rattle.glk_keys.specs.Choices.{Defines, IsChosen, SizesFit}
use Rattle.glk_keys.specs.Definitions.{defines, definitions_of, strong_definitions, shared_definitions, size_at, is_largest, first_largest, first_of, object_definition}
use Rattle.glk_keys.specs.Keys.{key_id}
use Rattle.glk_keys.specs.Programs.{Program}
use Rattle.glk_keys.specs.Rows.{Row, row_at, row_count, positions, is_definition, is_strong, is_shared}
use Rattle.glk_keys.specs.Votes.{class_of}

-- Tests.

pub not_true : (b : Bool) → (b ≡ true → ⊥) → b ≡ false
not_true true h = absurd (h refl)
not_true false h = refl

both_true : (a b : Bool) → (a && b) ≡ true → (a ≡ true) × (b ≡ true)
both_true true true h = (refl, refl)
both_true true false h = absurd (true≢false (sym h))
both_true false true h = absurd (true≢false (sym h))
both_true false false h = absurd (true≢false (sym h))

both_are : (a b : Bool) → a ≡ true → b ≡ true → (a && b) ≡ true
both_are a b ha hb = ap (λ x. x && b) ha ∙ hb

le_true : (a b : ℕ) → a ≤ b → nat_le a b ≡ true
le_true a b h = grind (arith, nat_tests)

le_false : (a b : ℕ) → b < a → nat_le a b ≡ false
le_false a b h = grind (arith, nat_tests)

-- Classes.

-- the class of a definition, by whether it is strong and whether it is shared
abbrev class_by : Bool → Bool → RankClass
class_by strong shared = if strong then Strong else if shared then Shared else Other

some_class : (c d : RankClass) → Some c ≡ Some d → c ≡ d
some_class c d e = cc

-- a row with a class is a definition, and its class is that
tested : (definition strong shared : Bool) (c : RankClass) → (if definition then Some (class_by strong shared) else None) ≡ Some c → (definition ≡ true) × (class_by strong shared ≡ c)
tested true strong shared c e = (refl, some_class (class_by strong shared) c e)
tested false strong shared c e = cc

class_tests : (row : Row) (c : RankClass) → class_of row ≡ Some c → (is_definition row ≡ true) × (class_by (is_strong row) (is_shared row) ≡ c)
unfolding class_of
class_tests row c e = tested (is_definition row) (is_strong row) (is_shared row) c e

test_class : (row : Row) → is_definition row ≡ true → class_of row ≡ Some (class_by (is_strong row) (is_shared row))
unfolding class_of
test_class row e = rw e refl

is_of_strong : (strong shared : Bool) → class_by strong shared ≡ Strong → strong ≡ true
is_of_strong true shared e = refl
is_of_strong false true e = cc
is_of_strong false false e = cc

is_of_shared : (strong shared : Bool) → class_by strong shared ≡ Shared → shared ≡ true
is_of_shared true shared e = cc
is_of_shared false true e = refl
is_of_shared false false e = cc

-- The order.

strong_order : (s r t q : ℕ) → IsBefore Strong s r Strong t q → r < q
strong_order s r t q (inl h) = absurd (omega arith)
strong_order s r t q (inr (e, inl h)) = absurd (omega arith)
strong_order s r t q (inr (e, inr (f, h))) = h

-- the other is smaller, or as large and later
abbrev pub Precedes : ℕ → ℕ → ℕ → ℕ → Type 0
Precedes s r t q = (t < s) ⊎ ((t ≡ s) × (r < q))

shared_order : (s r t q : ℕ) → s < 2 ^ 32 → t < 2 ^ 32 → IsBefore Shared s r Shared t q → Precedes s r t q
shared_order s r t q hs ht (inl h) = absurd (omega arith)
shared_order s r t q hs ht (inr (e, inl h)) = inl (omega arith)
shared_order s r t q hs ht (inr (e, inr (f, h))) = inr (omega arith, h)

other_order : (s r t q : ℕ) → s < 2 ^ 32 → t < 2 ^ 32 → IsBefore Other s r Other t q → Precedes s r t q
other_order s r t q hs ht (inl h) = absurd (omega arith)
other_order s r t q hs ht (inr (e, inl h)) = inl (omega arith)
other_order s r t q hs ht (inr (e, inr (f, h))) = inr (omega arith, h)

late_strong : (c : RankClass) (s r t q : ℕ) → IsBefore c s r Strong t q → c ≡ Strong
late_strong Strong s r t q h = refl
late_strong Shared s r t q (inl h) = absurd (omega arith)
late_strong Shared s r t q (inr (e, h)) = absurd (omega arith)
late_strong Other s r t q (inl h) = absurd (omega arith)
late_strong Other s r t q (inr (e, h)) = absurd (omega arith)

other_shared : (s r t q : ℕ) → IsBefore Other s r Shared t q → ⊥
other_shared s r t q (inl h) = absurd (omega arith)
other_shared s r t q (inr (e, h)) = absurd (omega arith)

module _ (p : Program) (k : ℕ) where
  -- a row that is a definition of the key by test is one, of the class by tests
  defines_is : (q : ℕ) → q < row_count p → defines p k q ≡ true → Defines p k q (class_by (is_strong (row_at p q)) (is_shared (row_at p q)))
  defines_is q h e =
      let both = both_true (is_definition (row_at p q)) (key_id p q == k) e in
      record { row = h; of_key = eqb-true (key_id p q) k both.1; class_is = test_class (row_at p q) both.0 }

  is_defines : (q : ℕ) (d : RankClass) → Defines p k q d → defines p k q ≡ true
  is_defines q d f = both_are (is_definition (row_at p q)) (key_id p q == k) (class_tests (row_at p q) d f.class_is).0 (eq-eqb (key_id p q) k f.of_key)

  -- and with a further test
  pub strong_is : (q : ℕ) → q < row_count p → (defines p k q && is_strong (row_at p q)) ≡ true → Defines p k q Strong
  strong_is q h e =
      let both = both_true (defines p k q) (is_strong (row_at p q)) e in
      let P : RankClass → Type 0 = λ c. Defines p k q c in
      subst P (ap (λ b. class_by b (is_shared (row_at p q))) both.1) (defines_is q h both.0)

  pub is_strong_one : (q : ℕ) → Defines p k q Strong → (defines p k q && is_strong (row_at p q)) ≡ true
  is_strong_one q f = both_are (defines p k q) (is_strong (row_at p q)) (is_defines q Strong f) (is_of_strong (is_strong (row_at p q)) (is_shared (row_at p q)) (class_tests (row_at p q) Strong f.class_is).1)

  is_shared_one : (q : ℕ) → Defines p k q Shared → (defines p k q && is_shared (row_at p q)) ≡ true
  is_shared_one q f = both_are (defines p k q) (is_shared (row_at p q)) (is_defines q Shared f) (is_of_shared (is_strong (row_at p q)) (is_shared (row_at p q)) (class_tests (row_at p q) Shared f.class_is).1)

  one_class : (r : ℕ) (c d : RankClass) → Defines p k r c → Defines p k r d → c ≡ d
  one_class r c d f g = some_class c d (sym f.class_is ∙ g.class_is)

  -- the first of the largest of rows that pass a test
  largest_is : (test : ℕ → Bool) (r : ℕ) → r < row_count p → test r ≡ true
      → ((q : ℕ) → q < row_count p → test q ≡ true → (r ≡ q) ⊎ Precedes (size_at p r) r (size_at p q) q)
      → first_largest p (filter test (positions p)) ≡ Some r
  largest_is test r h pass first =
      let n : ℕ = row_count p in
      let list : List ℕ = filter test (positions p) in
      let largest : is_largest p list r ≡ true =
      all_pass test (λ q. nat_le (size_at p q) (size_at p r)) 0 n (λ q low high e.
      le_true (size_at p q) (size_at p r) (elim (first q (omega arith) e) [
        | inl same ↦ let e = ap (λ i. size_at p i) same in omega arith
        | inr (inl less) ↦ omega arith
        | inr (inr (equal, later)) ↦ omega arith
      ])) in
      let smaller : (q : ℕ) → 0 ≤ q → q < r → (test q && is_largest p list q) ≡ false =
      λ q low before.
      not_true (test q && is_largest p list q) (λ both.
      let t = both_true (test q) (is_largest p list q) both in
      let less : size_at p q < size_at p r = elim (first q (omega arith) t.0) [
        | inl same ↦ absurd (omega arith)
        | inr (inl less) ↦ less
        | inr (inr (equal, later)) ↦ absurd (omega arith)
      ] in
      true≢false (sym t.1 ∙ some_fails test (λ i. nat_le (size_at p i) (size_at p q)) 0 n r (omega arith) (omega arith) pass (le_false (size_at p r) (size_at p q) less))) in
      find_filter test (is_largest p list) (positions p) ∙ find_least (λ q. test q && is_largest p list q) 0 n r (omega arith) (omega arith) (both_are (test r) (is_largest p list r) pass largest) smaller

  no_strong : ((q : ℕ) → Defines p k q Strong → ⊥) → first_of (strong_definitions p k) ≡ None
  unfolding definitions_of
  no_strong none =
      first_filter (λ r. is_strong (row_at p r)) (definitions_of p k)
      ∙ find_filter (defines p k) (λ r. is_strong (row_at p r)) (positions p)
      ∙ find_none (λ r. defines p k r && is_strong (row_at p r)) 0 (row_count p) (λ q low high. not_true _ (λ e. none q (strong_is q (omega arith) e)))

  shared_list : shared_definitions p k ≡ filter (λ r. defines p k r && is_shared (row_at p r)) (positions p)
  unfolding definitions_of
  shared_list = filter_filter (defines p k) (λ r. is_shared (row_at p r)) (positions p)

  module _ (fits : SizesFit p) where
    abbrev IsFirst : ℕ → RankClass → Type 0
    IsFirst r c = (q : ℕ) (d : RankClass) → Defines p k q d → (r ≡ q) ⊎ IsBefore c (size_at p r) r d (size_at p q) q

    strong_first : (r : ℕ) → Defines p k r Strong → IsFirst r Strong → first_of (strong_definitions p k) ≡ Some r
    unfolding definitions_of
    strong_first r mine first =
        first_filter (λ q. is_strong (row_at p q)) (definitions_of p k)
        ∙ find_filter (defines p k) (λ q. is_strong (row_at p q)) (positions p)
        ∙ find_least (λ q. defines p k q && is_strong (row_at p q)) 0 (row_count p) r (omega arith) (let h = mine.row in omega arith) (is_strong_one r mine)
        (λ q low before. not_true (defines p k q && is_strong (row_at p q)) (λ e.
        let there : q < row_count p = let h = mine.row in omega arith in
        elim (first q Strong (strong_is q there e)) [
          | inl same ↦ omega arith
          | inr order ↦ let later = strong_order (size_at p r) r (size_at p q) q order in omega arith
        ]))

    -- where the first is not strong, none is
    later_strong : (r : ℕ) (c : RankClass) → Defines p k r c → IsFirst r c → (q : ℕ) → Defines p k q Strong → (c ≡ Strong → ⊥) → ⊥
    later_strong r c mine first q f weak =
        elim (first q Strong f) [
          | inl same ↦
              let P : ℕ → Type 0 = λ i. Defines p k i Strong in
              weak (one_class r c Strong mine (subst P (sym same) f))
          | inr order ↦ weak (late_strong c (size_at p r) r (size_at p q) q order)
        ]

    -- a row of a class by test is of the class, where none of the key is strong
    shared_is : ((q : ℕ) → Defines p k q Strong → ⊥) → (q : ℕ) → q < row_count p → (defines p k q && is_shared (row_at p q)) ≡ true → Defines p k q Shared
    shared_is none q h e =
        let both = both_true (defines p k q) (is_shared (row_at p q)) e in
        let weak : is_strong (row_at p q) ≡ false = not_true (is_strong (row_at p q)) (λ s. none q (strong_is q h (both_are (defines p k q) (is_strong (row_at p q)) both.0 s))) in
        let P : RankClass → Type 0 = λ c. Defines p k q c in
        subst P (λ z. class_by (weak z) (both.1 z)) (defines_is q h both.0)

    shared_first : (r : ℕ) → Defines p k r Shared → IsFirst r Shared → first_largest p (shared_definitions p k) ≡ Some r
    shared_first r mine first =
        let none : (q : ℕ) → Defines p k q Strong → ⊥ = λ q f. later_strong r Shared mine first q f (λ e. cc) in
        ap (first_largest p) shared_list
        ∙ largest_is (λ q. defines p k q && is_shared (row_at p q)) r mine.row (is_shared_one r mine) (λ q h e.
        elim (first q Shared (shared_is none q h e)) [
          | inl same ↦ inl same
          | inr order ↦ inr (shared_order (size_at p r) r (size_at p q) q (fits r mine.row) (fits q h) order)
        ])

    shared_none : (r : ℕ) → Defines p k r Other → IsFirst r Other → first_largest p (shared_definitions p k) ≡ None
    shared_none r mine first =
        let none : (q : ℕ) → Defines p k q Strong → ⊥ = λ q f. later_strong r Other mine first q f (λ e. cc) in
        let empty : filter (λ q. defines p k q && is_shared (row_at p q)) (positions p) ≡ [] =
        filter_none (λ q. defines p k q && is_shared (row_at p q)) 0 (row_count p) (λ q low high.
        not_true (defines p k q && is_shared (row_at p q)) (λ e.
        let f = shared_is none q (omega arith) e in
        elim (first q Shared f) [
          | inl same ↦
              let P : ℕ → Type 0 = λ i. Defines p k i Shared in
              let e : Other ≡ Shared = one_class r Other Shared mine (subst P (sym same) f) in
              cc
          | inr order ↦ other_shared (size_at p r) r (size_at p q) q order
        ])) in
        ap (first_largest p) (shared_list ∙ empty)

    other_first : (r : ℕ) → Defines p k r Other → IsFirst r Other → first_largest p (definitions_of p k) ≡ Some r
    unfolding definitions_of
    other_first r mine first =
        let none : (q : ℕ) → Defines p k q Strong → ⊥ = λ q f. later_strong r Other mine first q f (λ e. cc) in
        largest_is (defines p k) r mine.row (is_defines r Other mine) (λ q h e.
        let weak : is_strong (row_at p q) ≡ false = not_true (is_strong (row_at p q)) (λ s. none q (strong_is q h (both_are (defines p k q) (is_strong (row_at p q)) e s))) in
        let unshared : is_shared (row_at p q) ≡ false = not_true (is_shared (row_at p q)) (λ s.
        let f = shared_is none q h (both_are (defines p k q) (is_shared (row_at p q)) e s) in
        elim (first q Shared f) [
          | inl same ↦
              let P : ℕ → Type 0 = λ i. Defines p k i Shared in
              let e : Other ≡ Shared = one_class r Other Shared mine (subst P (sym same) f) in
              cc
          | inr order ↦ other_shared (size_at p r) r (size_at p q) q order
        ]) in
        let P : RankClass → Type 0 = λ c. Defines p k q c in
        elim (first q Other (subst P (λ z. class_by (weak z) (unshared z)) (defines_is q h e))) [
          | inl same ↦ inl same
          | inr order ↦ inr (other_order (size_at p r) r (size_at p q) q (fits r mine.row) (fits q h) order)
        ])

    -- the definition that is before all others of its key is the chosen one
    pub chosen_first : (r : ℕ) → IsChosen p k (Some r) → object_definition p k ≡ Some r
    unfolding object_definition
    chosen_first r (Strong, mine, first) =
        let is : first_of (strong_definitions p k) ≡ Some r = strong_first r mine first in
        ap (λ o. option_or o (option_or (first_largest p (shared_definitions p k)) (first_largest p (definitions_of p k)))) is
    chosen_first r (Shared, mine, first) =
        let none : first_of (strong_definitions p k) ≡ None = no_strong (λ q f. later_strong r Shared mine first q f (λ e. cc)) in
        let is : first_largest p (shared_definitions p k) ≡ Some r = shared_first r mine first in
        (λ z. option_or (none z) (option_or (is z) (first_largest p (definitions_of p k))))
    chosen_first r (Other, mine, first) =
        let none : first_of (strong_definitions p k) ≡ None = no_strong (λ q f. later_strong r Other mine first q f (λ e. cc)) in
        let no_shared : first_largest p (shared_definitions p k) ≡ None = shared_none r mine first in
        let is : first_largest p (definitions_of p k) ≡ Some r = other_first r mine first in
        (λ z. option_or (none z) (option_or (no_shared z) (is z)))

    -- a key without definitions has no chosen one
    pub chosen_none : IsChosen p k None → object_definition p k ≡ None
    unfolding object_definition definitions_of
    chosen_none none =
        let empty : filter (defines p k) (positions p) ≡ [] = filter_none (defines p k) 0 (row_count p) (λ q low high. not_true (defines p k q) (λ e. none q _ (defines_is q (omega arith) e))) in
        rw empty refl
