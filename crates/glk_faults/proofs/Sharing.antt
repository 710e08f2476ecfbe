-- The fields that were met, one more.
use Rattle.std.proofs.Common.{◌≡◌, ◌≢◌, ◌+◌, ◌<◌, ◌≤◌, ◌^◌, ℕ, Bool, true, false, cond, [], Some, None, inl, inr, refl, sym, ap, ◌∙◌, subst, nat_eq, arith}
use Rattle.std.specs.Prelude.{◌&&◌, nat_lt}
use Rattle.std.specs.HashMap.{HashMap, get}
use Rattle.std.specs.List.{list_any, range_with_len}
use Rattle.std.proofs.lemmas.Bool.{cases_lt, cases_Bool}
use Rattle.std.proofs.lemmas.Bool.Decides.{nat_tests}
use Rattle.std.proofs.lemmas.Option.{same_Some}
use Rattle.glk_keys.specs.Programs.{Program}
use Rattle.glk_obj.specs.Records.{field_start}
use Rattle.glk_reach.specs.RelocFaults.{reloc_in, is_field, shares_byte, shares_byte_with, shares_byte_with_earlier}
use Rattle.glk_faults.specs.Taken.{IsFieldAt, AreTaken, Sharer, shares}
use Rattle.glk_faults.proofs.Finds.{any_none, any_at}

and_false : (a : Bool) → (a && false) ≡ false
and_false true = refl
and_false false = refl

both_yes : (a b : Bool) → a ≡ true → b ≡ true → (a && b) ≡ true
both_yes a b x y = rw (x, y) refl

not_less : (a b : ℕ) → b ≤ a → nat_lt a b ≡ false
not_less a b h = grind (arith, nat_tests)

less : (a b : ℕ) → a < b → nat_lt a b ≡ true
less a b h = grind (arith, nat_tests)

pub none_taken : {S : Type 0} (p : Program) (k : ℕ) (taken : HashMap ℕ ℕ S) → taken.entries ≡ [] → AreTaken p k 0 taken
none_taken p k taken empty = record {
  met = λ i h f. absurd (omega arith);
  only = λ start size e. absurd (let bad : None ≡ Some size = rw empty at e in cc);
}

module _ {S : Type 0} (p : Program) (k i : ℕ) (taken : HashMap ℕ ℕ S) (are : AreTaken p k i taken) where
  abbrev start_of : ℕ → ℕ
  start_of j = field_start (reloc_in p k j)

  abbrev size_of : ℕ → ℕ
  size_of j = (reloc_in p k j).size

  -- a field that does not share a byte with those
  pub no_field : is_field p k i ≡ false → shares_byte_with_earlier p k i ≡ false
  no_field not_so = ap (λ b. b && list_any (shares_byte_with p k i) (range_with_len 0 i)) not_so

  abbrev Apart : ℕ → ℕ → Type 0
  Apart start size = (other bytes : ℕ) → start ≤ other + 8 → other < start + size → other < 2 ^ 32 → get nat_eq taken other ≡ Some bytes → shares start size other bytes ≡ false

  module _ (start size : ℕ) (start_is : start ≡ start_of i) (size_is : size ≡ size_of i) where
    -- it shares one with one of them
    pub shares_one : is_field p k i ≡ true → Sharer taken start size → shares_byte_with_earlier p k i ≡ true
    shares_one field s =
        let at = are.only s.other_start s.other_size s.there in
        let f = at.2 in
        let e : shares start size s.other_start s.other_size ≡ shares_byte (reloc_in p k at.0) (reloc_in p k i) = (λ z. shares (start_is z) (size_is z) ((sym f.start_is) z) ((sym f.size_is) z)) in
        let is_so : shares_byte_with p k i at.0 ≡ true = both_yes (is_field p k at.0) (shares_byte (reloc_in p k at.0) (reloc_in p k i)) f.field (sym e ∙ s.shared) in
        both_yes (is_field p k i) (list_any (shares_byte_with p k i) (range_with_len 0 i)) field (any_at (shares_byte_with p k i) i at.0 at.1 is_so)

    module _ (apart : Apart start size) (sized : (j : ℕ) → j < i + 1 → is_field p k j ≡ true → (0 < size_of j) × (size_of j ≤ 8)) (small : (j : ℕ) → j < i → start_of j < 2 ^ 32) where
      apart_one : (j : ℕ) → j < i → is_field p k j ≡ true → shares_byte (reloc_in p k j) (reloc_in p k i) ≡ false
      apart_one j below field = elim (cases_lt (start_of j) (start_of i + size_of i)) [
        | inr past ↦ ap (λ b. b && nat_lt (start_of i) (start_of j + size_of j)) (not_less (start_of j) (start_of i + size_of i) past)
        | inl inside ↦ elim (cases_lt (start_of i) (start_of j + size_of j)) [
          | inr past ↦ ap (λ b. nat_lt (start_of j) (start_of i + size_of i) && b) (not_less (start_of i) (start_of j + size_of j) past) ∙ and_false (nat_lt (start_of j) (start_of i + size_of i))
          | inl near ↦
              let z = sized j (omega arith) field in
              let w = small j below in
              let not_so = apart (start_of j) (size_of j) (omega arith) (omega arith) w (are.met j below field) in
              let e : shares start size (start_of j) (size_of j) ≡ shares_byte (reloc_in p k j) (reloc_in p k i) = (λ z. shares (start_is z) (size_is z) (start_of j) (size_of j)) in
              sym e ∙ not_so
        ]
      ]

      apart_at : (j : ℕ) → j < i → shares_byte_with p k i j ≡ false
      apart_at j below = elim (cases_Bool (is_field p k j)) [
        | inl is_so ↦ ap (λ b. is_field p k j && b) (apart_one j below is_so) ∙ and_false (is_field p k j)
        | inr not_so ↦ ap (λ b. b && shares_byte (reloc_in p k j) (reloc_in p k i)) not_so
      ]

      pub shares_none : shares_byte_with_earlier p k i ≡ false
      shares_none = ap (λ b. is_field p k i && b) (any_none (shares_byte_with p k i) i apart_at) ∙ and_false (is_field p k i)

      module _ (field : is_field p k i ≡ true) (after : HashMap ℕ ℕ S) (updates : (q : ℕ) → get nat_eq after q ≡ cond (nat_eq start q) (Some size) (get nat_eq taken q)) where
        -- two fields do not start at one place
        apart_starts : (j : ℕ) → j < i → is_field p k j ≡ true → start ≢ start_of j
        apart_starts j below is_so same =
            let one = sized j (omega arith) is_so in
            let two = sized i (omega arith) field in
            let a : nat_lt (start_of j) (start_of i + size_of i) ≡ true = less (start_of j) (start_of i + size_of i) (omega arith) in
            let b : nat_lt (start_of i) (start_of j + size_of j) ≡ true = less (start_of i) (start_of j + size_of j) (omega arith) in
            let bad : true ≡ false = sym (both_yes (nat_lt (start_of j) (start_of i + size_of i)) (nat_lt (start_of i) (start_of j + size_of j)) a b) ∙ apart_one j below is_so in
            cc

        pick : (b : Bool) (q : ℕ) → nat_eq start q ≡ b → get nat_eq after q ≡ cond b (Some size) (get nat_eq taken q)
        pick b q e = updates q ∙ ap (λ x. cond x (Some size) (get nat_eq taken q)) e

        met_here : (j : ℕ) → j < i + 1 → is_field p k j ≡ true → get nat_eq after (start_of j) ≡ Some (size_of j)
        met_here j below is_so = elim (cases_lt j i) [
          | inl earlier ↦
              let apart_start : start ≢ start_of j = apart_starts j earlier is_so in
              let not_so : nat_eq start (start_of j) ≡ false = grind (arith, nat_tests, apart_start) in
              pick false (start_of j) not_so ∙ are.met j earlier is_so
          | inr here ↦
              let same : i ≡ j = omega arith in
              let P : ℕ → Type 0 = λ x. get nat_eq after (start_of x) ≡ Some (size_of x) in
              let at : nat_eq start (start_of i) ≡ true = grind (arith, nat_tests, start_is) in
              subst P same (pick true (start_of i) at ∙ ap Some size_is)
        ]

        only_here : (q bytes : ℕ) → get nat_eq after q ≡ Some bytes → (j : ℕ) × (j < i + 1) × IsFieldAt p k j q bytes
        only_here q bytes e = elim (cases_Bool (nat_eq start q)) [
          | inl is_so ↦
              let same : start ≡ q = grind (arith, nat_tests, is_so) in
              let is : Some size ≡ Some bytes = sym (pick true q is_so) ∙ e in
              (i, omega arith, record { field = field; start_is = sym start_is ∙ same; size_is = sym size_is ∙ same_Some size bytes is })
          | inr not_so ↦
              let at = are.only q bytes (sym (pick false q not_so) ∙ e) in
              let below : at.0 < i = at.1 in
              (at.0, omega arith, at.2)
        ]

        pub one_taken : AreTaken p k (i + 1) after
        one_taken = record { met = met_here; only = only_here }

  -- a relocation that is no field
  pub passed : is_field p k i ≡ false → AreTaken p k (i + 1) taken
  passed not_so = record {
    met = λ j below is_so. elim (cases_lt j i) [
      | inl earlier ↦ are.met j earlier is_so
      | inr here ↦ let same : j ≡ i = omega arith in absurd (let bad : true ≡ false = sym is_so ∙ ap (is_field p k) same ∙ not_so in cc)
    ];
    only = λ start size e. let at = are.only start size e in let below : at.0 < i = at.1 in (at.0, omega arith, at.2);
  }
