-- Fields that rise share no byte.
use Rattle.std.proofs.Common.{◌≡◌, ◌≢◌, ◌+◌, ◌<◌, ◌≤◌, ℕ, Bool, true, false, Option, inl, inr, refl, sym, ap, ◌∙◌, subst, arith, below_more}
use Rattle.std.specs.Prelude.{◌&&◌, ◌==◌, nat_lt}
use Rattle.std.specs.Option.{option_map_or}
use Rattle.std.specs.List.{list_any, range_with_len}
use Rattle.std.proofs.lemmas.Bool.{cases_Bool}
use Rattle.std.proofs.lemmas.Bool.Decides.{nat_tests}
use Rattle.glk_keys.specs.Programs.{Program}
use Rattle.glk_keys.specs.Relocations.{reloc_kind}
use Rattle.glk_obj.specs.Records.{field_start}
use Rattle.glk_obj.specs.declared.kinds.RelocKind.{RelocKind}
use Rattle.glk_reach.specs.KindFaults.{is_zeros}
use Rattle.glk_reach.specs.RelocFaults.{reloc_in, has_no_kind, has_other_size, is_field, is_field_in_zeros, is_without_target, shares_byte, shares_byte_with, shares_byte_with_earlier}
use Rattle.glk_reach.specs.RelocKinds.{is_field_kind}
use Rattle.glk_faults.specs.Rules.{AreClean, AreBefore, IsNextEnd}
use Rattle.glk_faults.specs.declared.relocs.RelocFacts.{RelocFacts}
use Rattle.glk_faults.proofs.Finds.{any_none}

pub none_clean : (p : Program) (k : ℕ) → AreClean p k 0
none_clean p k = record {
  kinds = λ i h. absurd (omega arith);
  sizes = λ i h. absurd (omega arith);
  zeros = λ i h. absurd (omega arith);
  targets = λ i h. absurd (omega arith);
  apart = λ i h. absurd (omega arith);
}

pub none_before : (p : Program) (k end : ℕ) → AreBefore p k 0 end
none_before p k end i h f = absurd (omega arith)

and_false : (a : Bool) → (a && false) ≡ false
and_false true = refl
and_false false = refl

not_less : (a b : ℕ) → b ≤ a → nat_lt a b ≡ false
not_less a b h = grind (arith, nat_tests)

module _ (p : Program) (k i : ℕ) (facts : RelocFacts) (kind : facts.kind ≡ reloc_kind p (reloc_in p k i)) (start : facts.start ≡ field_start (reloc_in p k i)) (size : facts.size ≡ (reloc_in p k i).size) where
  field_is : is_field p k i ≡ option_map_or is_field_kind facts.kind false
  field_is = ap (λ (o : Option RelocKind). option_map_or is_field_kind o false) (sym kind)

  module _ (zeros : Bool) (zeros_are : zeros ≡ is_zeros p k) (end next : ℕ) (is : IsNextEnd facts zeros end next) (before : AreBefore p k i end) where
    -- an earlier field ends before
    apart_from : is_field p k i ≡ true → (j : ℕ) → j < i → shares_byte_with p k i j ≡ false
    apart_from field j below = elim (cases_Bool (is_field p k j)) [
      | inl is_so ↦
          let ends = before j below is_so in
          let rises = (is.rises (sym field_is ∙ field)).0 in
          let none : nat_lt (field_start (reloc_in p k i)) (field_start (reloc_in p k j) + (reloc_in p k j).size) ≡ false = not_less (field_start (reloc_in p k i)) (field_start (reloc_in p k j) + (reloc_in p k j).size) (omega arith) in
          let first : Bool = nat_lt (field_start (reloc_in p k j)) (field_start (reloc_in p k i) + (reloc_in p k i).size) in
          ap (λ b. is_field p k j && (first && b)) none ∙ ap (λ b. is_field p k j && b) (and_false first) ∙ and_false (is_field p k j)
      | inr not_so ↦ ap (λ b. b && shares_byte (reloc_in p k j) (reloc_in p k i)) not_so
    ]

    apart_here : shares_byte_with_earlier p k i ≡ false
    apart_here = elim (cases_Bool (is_field p k i)) [
      | inl is_so ↦ ap (λ b. is_field p k i && b) (any_none (shares_byte_with p k i) i (apart_from is_so)) ∙ and_false (is_field p k i)
      | inr not_so ↦ ap (λ b. b && list_any (shares_byte_with p k i) (range_with_len 0 i)) not_so
    ]

    zeros_here : is_field_in_zeros p k i ≡ false
    zeros_here = elim (cases_Bool (is_field p k i)) [
      | inl is_so ↦ ap (λ b. is_field p k i && b) (sym zeros_are ∙ is.zeros_are (sym field_is ∙ is_so)) ∙ and_false (is_field p k i)
      | inr not_so ↦ ap (λ b. b && is_zeros p k) not_so
    ]

    later_end : end ≤ next
    later_end = elim (cases_Bool (option_map_or is_field_kind facts.kind false)) [
      | inl is_so ↦ let r = is.rises is_so in omega arith
      | inr not_so ↦ let s = is.same not_so in omega arith
    ]

    before_here : is_field p k i ≡ true → field_start (reloc_in p k i) + (reloc_in p k i).size ≤ next
    before_here is_so = let r = is.rises (sym field_is ∙ is_so) in omega arith

    pub before_more : AreBefore p k (i + 1) next
    before_more j below field = elim (cases_Bool (j == i)) [
      | inl at ↦
          let same : i ≡ j = grind (arith, nat_tests, at) in
          let P : ℕ → Type 0 = λ x. is_field p k x ≡ true → field_start (reloc_in p k x) + (reloc_in p k x).size ≤ next in
          subst P same before_here field
      | inr other ↦
          let apart : j ≢ i = grind (arith, nat_tests, other) in
          let ends = before j (omega (arith, apart)) field in
          let l = later_end in
          omega arith
    ]

    pub clean_more : AreClean p k i → has_no_kind p k i ≡ false → has_other_size p k i ≡ false → is_without_target p k i ≡ false → AreClean p k (i + 1)
    clean_more clean a b c = record {
      kinds = below_more _ _ clean.kinds a;
      sizes = below_more _ _ clean.sizes b;
      zeros = below_more _ _ clean.zeros zeros_here;
      targets = below_more _ _ clean.targets c;
      apart = below_more _ _ clean.apart apart_here;
    }
