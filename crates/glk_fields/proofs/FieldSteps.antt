-- The fields and the places of a kept symbol, as the code finds them.
use Rattle.std.proofs.Common.{◌≡◌, ◌∙◌, ℕ, ◌+◌, ◌<◌, ◌≤◌, List, [], length, Bool, true, false, Option, Some, None, refl, ap, sym, subst, arith}
use Rattle.std.specs.Prelude.{nat_lt, if◌then◌else◌}
use Rattle.std.specs.Option.{option_map_or}
use Rattle.std.specs.List.Sorted.{IsPermutation}
use Rattle.std.proofs.lemmas.Bool.Decides.{nat_tests}
use Rattle.std.proofs.lemmas.List.Sorted.{IsPermutation-refl, IsNonDecreasingBy-short}
use Rattle.glk_keys.specs.Definitions.{chosen_of}
use Rattle.glk_keys.specs.Relocations.{relocs_of}
use Rattle.glk_keys.specs.Rows.{row_at}
use Rattle.glk_obj.specs.Positive.{HasFieldWithin}
use Rattle.glk_obj.specs.Records.{Reloc, field_start}
use Rattle.glk_obj.specs.Rules.{IsContentKind}
use Rattle.glk_placing.specs.Locations.{kept_location}
use Rattle.glk_placing.specs.Members.{of_symbol}
use Rattle.glk_placing.specs.Programs.{PlacedProgram, key_at}
use Rattle.glk_placing.specs.declared.location.Location.{Location}
use Rattle.glk_reloc.specs.declared.fields.Field.{Field}
use Rattle.glk_fields.specs.declared.places.FieldPlace.{FieldPlace}
use Rattle.glk_fields.specs.Places.{reloc_in, row_field, symbol_field, symbol_places, row_places, AreOrdered}
use Rattle.glk_fields.specs.Ready.{EndsInside}
use Rattle.glk_fields.specs.Values.{reloc_field}

module _ (s : PlacedProgram) (j r a : ℕ) where
  pub row_field_none : length (relocs_of s.program r) ≤ j → row_field s j r a ≡ None
  unfolding row_field
  row_field_none past =
      let test : nat_lt j (length (relocs_of s.program r)) ≡ false = grind (arith, nat_tests) in
      ap (λ b. if b then reloc_field s r a (reloc_in s r j) else None) test

  pub row_field_some : j < length (relocs_of s.program r) → row_field s j r a ≡ reloc_field s r a (reloc_in s r j)
  unfolding row_field
  row_field_some inside =
      let test : nat_lt j (length (relocs_of s.program r)) ≡ true = grind (arith, nat_tests) in
      ap (λ b. if b then reloc_field s r a (reloc_in s r j) else None) test

-- what is read of a kept symbol
module _ {A : Type 0} (s : PlacedProgram) (i : ℕ) (read : (r address : ℕ) → A) (none : A) where
  pub unchosen : chosen_of s.program (key_at s i) ≡ None → of_symbol s i read none ≡ none
  unchosen e = ap (λ o. option_map_or (λ q. option_map_or (λ (l : Location). read q l.address) (kept_location s i) none) o none) e

  pub unlocated : (r : ℕ) → chosen_of s.program (key_at s i) ≡ Some r → kept_location s i ≡ None → of_symbol s i read none ≡ none
  unlocated r e at =
      ap (λ o. option_map_or (λ q. option_map_or (λ (l : Location). read q l.address) (kept_location s i) none) o none) e
      ∙ ap (λ o. option_map_or (λ (l : Location). read r l.address) o none) at

  pub found : (r : ℕ) (l : Location) → chosen_of s.program (key_at s i) ≡ Some r → kept_location s i ≡ Some l → of_symbol s i read none ≡ read r l.address
  found r l e at =
      ap (λ o. option_map_or (λ q. option_map_or (λ (m : Location). read q m.address) (kept_location s i) none) o none) e
      ∙ ap (λ o. option_map_or (λ (m : Location). read r m.address) o none) at

module _ (s : PlacedProgram) (i j : ℕ) where
  pub symbol_field_past : length s.kept ≤ i → symbol_field s i j ≡ None
  unfolding symbol_field
  symbol_field_past past =
      let test : nat_lt i (length s.kept) ≡ false = grind (arith, nat_tests) in
      ap (λ b. if b then of_symbol s i (row_field s j) None else None) test

  pub symbol_field_is : i < length s.kept → symbol_field s i j ≡ of_symbol s i (row_field s j) None
  unfolding symbol_field
  symbol_field_is inside =
      let test : nat_lt i (length s.kept) ≡ true = grind (arith, nat_tests) in
      ap (λ b. if b then of_symbol s i (row_field s j) None else None) test

pub places_of_symbol : (s : PlacedProgram) (i : ℕ) → symbol_places s i ≡ of_symbol s i (row_places s i) []
unfolding symbol_places
places_of_symbol s i = refl

-- an empty list is in order
pub ordered_none : (places ordered : List FieldPlace) → places ≡ [] → ordered ≡ [] → AreOrdered places ordered
ordered_none places ordered e f =
    let P : List FieldPlace → Type 0 = λ xs. AreOrdered xs ordered in
    let Q : List FieldPlace → Type 0 = λ xs. AreOrdered [] xs in
    subst P (sym e) (subst Q (sym f) (record {
      permutation = IsPermutation-refl [];
      rising = IsNonDecreasingBy-short (λ (p : FieldPlace). p.offset) [] (let short : 0 ≤ 1 = omega arith in short);
    }))

-- the field of a relocation that is within its symbol ends there
pub ends_inside : (s : PlacedProgram) (i j r offset : ℕ) (reloc : Reloc) → chosen_of s.program (key_at s i) ≡ Some r → reloc ≡ reloc_in s r j → offset ≡ field_start reloc
    → HasFieldWithin (row_at s.program r).symbol reloc → EndsInside s (record { index = i; offset = offset; reloc = j })
unfolding field_start
ends_inside s i j r offset reloc chosen is starts within q found content =
    let same : r ≡ q = (let both : Some r ≡ Some q = sym chosen ∙ found in cc) in
    let C : ℕ → Type 0 = λ m. IsContentKind (row_at s.program m).symbol.kind in
    let inside = within (subst C (sym same) content) in
    let P : ℕ → Type 0 = λ m. offset + (reloc_in s m j).size ≤ (row_at s.program m).symbol.size in
    let S : ℕ → Type 0 = λ n. n + reloc.size ≤ (row_at s.program r).symbol.size in
    let R : Reloc → Type 0 = λ x. offset + x.size ≤ (row_at s.program r).symbol.size in
    subst P same (subst R is (subst S (sym starts) inside.to))
