-- The relocations of a key are those of its chosen definition.
use Rattle.std.proofs.Common.{◌≡◌, ◌<◌, ℕ, false, List, length, map, get_or, Option, Some, refl, sym, ap, ◌∙◌, arith}
use Rattle.std.specs.Prelude.{slice_get}
use Rattle.std.specs.Option.{option_and_then, option_map_or}
use Rattle.std.proofs.lemmas.List.{get_or-map, length-map}
use Rattle.std.proofs.lemmas.Option.{slice_get-get_or}
use Rattle.glk_keys.specs.Programs.{Program}
use Rattle.glk_keys.specs.Relocations.{relocs_of, no_reloc, reloc_kind, reloc_target}
use Rattle.glk_obj.specs.Records.{Reloc}
use Rattle.glk_obj.specs.declared.kinds.RelocKind.TheVariants.{MethodOff}
use Rattle.glk_readings.specs.Triples.{is_methodoff_at, target_at}
use Rattle.glk_readings.specs.declared.symbols.Relocation.{Relocation}
use Rattle.glk_reach.specs.Chosen.{definition_row, key_relocs, relocations_of, relocation_of, target_symbol}
use Rattle.glk_reach.specs.RelocFaults.{reloc_in}
use Rattle.glk_reach.specs.RelocKinds.{is_kind}

module _ (p : Program) (k r : ℕ) (chosen : definition_row p k ≡ Some r) where
  pub key_relocs_are : key_relocs p k ≡ relocs_of p r
  unfolding key_relocs
  key_relocs_are = rw chosen refl

  relocations_are : relocations_of p k ≡ map (relocation_of p r) (relocs_of p r)
  unfolding relocations_of
  relocations_are = rw chosen refl

  pub reloc_is : (i : ℕ) → reloc_in p k i ≡ get_or (relocs_of p r) i no_reloc
  reloc_is i = ap (λ (relocs : List Reloc). get_or relocs i no_reloc) key_relocs_are

  nth : (i : ℕ) → i < length (key_relocs p k) → slice_get (relocations_of p k) i ≡ Some (relocation_of p r (reloc_in p k i))
  nth i inside =
      let relocs = relocs_of p r in
      let d : Relocation = relocation_of p r no_reloc in
      let within : i < length relocs = (let e = ap length key_relocs_are in omega arith) in
      let long : length (map (relocation_of p r) relocs) ≡ length relocs = length-map relocs (relocation_of p r) in
      let h : i < length (map (relocation_of p r) relocs) = omega arith in
      ap (λ (xs : List Relocation). slice_get xs i) relocations_are
      ∙ slice_get-get_or (map (relocation_of p r) relocs) i d h
      ∙ ap Some (get_or-map (relocation_of p r) relocs i no_reloc d within)
      ∙ ap (λ (reloc : Reloc). Some (relocation_of p r reloc)) (sym (reloc_is i))

  pub target_is : (i : ℕ) → i < length (key_relocs p k) → target_at (relocations_of p k) i ≡ target_symbol (reloc_target p r (reloc_in p k i))
  target_is i inside = ap (λ (o : Option Relocation). option_and_then (λ reloc. reloc.target) o) (nth i inside)

  pub methodoff_is : (i : ℕ) → i < length (key_relocs p k) → is_methodoff_at (relocations_of p k) i ≡ is_kind MethodOff (reloc_kind p (reloc_in p k i))
  methodoff_is i inside = ap (λ (o : Option Relocation). option_map_or (λ reloc. reloc.is_methodoff) o false) (nth i inside)

  pub as_long : length (relocations_of p k) ≡ length (key_relocs p k)
  as_long = ap length relocations_are ∙ length-map (relocs_of p r) (relocation_of p r) ∙ sym (ap length key_relocs_are)

  pub inside_row : (i : ℕ) → i < length (key_relocs p k) → i < length (relocs_of p r)
  inside_row i inside = let e = ap length key_relocs_are in omega arith
