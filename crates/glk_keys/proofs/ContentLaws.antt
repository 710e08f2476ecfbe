-- What a row that is a symbol of an object holds.
use Rattle.std.proofs.Common.{◌≡◌, ℕ, ◌-◌, ◌<◌, ◌≤◌, List, true, false, length, get_or, refl, inl, inr, sym, ap, ◌∙◌, arith, true≢false}
use Rattle.std.proofs.lemmas.Bool.{cases_lt}
use Rattle.std.proofs.lemmas.List.FromFn.{get_or-map-range_with_len, length-map-range_with_len}
use Rattle.glk_arena.specs.World.{symbol_count}
use Rattle.glk_base.proofs.Groups.{lt_false}
use Rattle.glk_obj.specs.Records.{definitions, reloc_count, reloc_at, aux_count, aux_at, data_at}
use Rattle.glk_keys.proofs.BlockLaws.{content_is}
use Rattle.glk_keys.specs.LocalIndices.{first_hashed64, first_hashed, first_named, first_reference}
use Rattle.glk_keys.specs.Programs.{Program}
use Rattle.glk_keys.specs.Relocations.{relocs_of, auxes_of, object_relocs, object_auxes, no_reloc, no_aux}
use Rattle.glk_keys.specs.RowLaws.{row_of_own}
use Rattle.glk_keys.specs.Rows.{Row, is_definition, is_from_definition, origin_at, object_at, object_row, row_at, row_count}

-- a symbol from the first reference on is none of a definition
reference_at : (b : List ℕ) (i : ℕ) → first_reference b ≤ i → is_from_definition (origin_at b i) ≡ false
unfolding origin_at
reference_at b i h =
    let a = lt_false i (first_hashed64 b) (omega arith) in
    let c = lt_false i (first_hashed b) (omega arith) in
    let d = lt_false i (first_named b) (omega arith) in
    let e = lt_false i (first_reference b) h in
    rw (a, c, d, e) refl

pub definition_below : (b : List ℕ) (i : ℕ) → is_from_definition (origin_at b i) ≡ true → i < definitions b
definition_below b i e =
    elim (cases_lt i (definitions b)) [
      | inl m ↦ m
      | inr g ↦ absurd (true≢false (sym e ∙ reference_at b i g))
    ]

-- the linker's own rows are no definitions
pub definition_of_object : (p : Program) (r : ℕ) → r < row_count p → is_definition (row_at p r) ≡ true → r < symbol_count p.world
definition_of_object p r h e =
    elim (cases_lt r (symbol_count p.world)) [
      | inl m ↦ m
      | inr g ↦ absurd (true≢false (sym e ∙ ap is_definition (row_of_own p r (r - symbol_count p.world) g h refl)))
    ]

pub definition_index : (p : Program) (r n i : ℕ) → row_at p r ≡ object_row n (object_at p n) i → is_definition (row_at p r) ≡ true → i < definitions (object_at p n)
definition_index p r n i is def = definition_below (object_at p n) i (sym (ap is_definition is) ∙ def)

module _ (p : Program) (r n i : ℕ) (b : List ℕ) (object : b ≡ object_at p n) (is : row_at p r ≡ object_row n (object_at p n) i) (def : is_definition (row_at p r) ≡ true) where
  pub row_is : row_at p r ≡ object_row n b i
  row_is = is ∙ ap (λ o. object_row n o i) (sym object)

  pub object_is : object_at p (row_at p r).object ≡ b
  object_is = ap (λ (row : Row). object_at p row.object) is ∙ sym object

  index_within : i < first_reference b
  index_within = definition_below b i (sym (ap is_definition row_is) ∙ def)

  pub content_of : (row_at p r).content ≡ data_at b i
  content_of = ap (λ (row : Row). row.content) row_is ∙ content_is b i index_within

  relocs_are : relocs_of p r ≡ object_relocs b i
  unfolding relocs_of
  relocs_are = rw def (ap (λ (row : Row). object_relocs (object_at p row.object) row.local) is ∙ ap (λ o. object_relocs o i) (sym object))

  pub relocs_count : length (relocs_of p r) ≡ reloc_count b i
  relocs_count = ap (λ l. length l) relocs_are ∙ length-map-range_with_len (reloc_at b i) 0 (reloc_count b i)

  pub relocs_nth : (k : ℕ) → k < reloc_count b i → get_or (relocs_of p r) k no_reloc ≡ reloc_at b i k
  relocs_nth k h = ap (λ l. get_or l k no_reloc) relocs_are ∙ get_or-map-range_with_len (reloc_at b i) 0 (reloc_count b i) k k no_reloc h (omega arith)

  auxes_are : auxes_of p r ≡ object_auxes b i
  unfolding auxes_of
  auxes_are = rw def (ap (λ (row : Row). object_auxes (object_at p row.object) row.local) is ∙ ap (λ o. object_auxes o i) (sym object))

  pub auxes_count : length (auxes_of p r) ≡ aux_count b i
  auxes_count = ap (λ l. length l) auxes_are ∙ length-map-range_with_len (aux_at b i) 0 (aux_count b i)

  pub auxes_nth : (k : ℕ) → k < aux_count b i → get_or (auxes_of p r) k no_aux ≡ aux_at b i k
  auxes_nth k h = ap (λ l. get_or l k no_aux) auxes_are ∙ get_or-map-range_with_len (aux_at b i) 0 (aux_count b i) k k no_aux h (omega arith)
