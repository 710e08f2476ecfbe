-- What a reader finds in module data.
use Rattle.std.proofs.Common.{◌≡◌, ℕ, ◌+◌, ◌-◌, ◌^◌, ◌<◌, List, [], ◌∷◌, ◌++◌, length, take, drop, Some, refl, sym, ap, subst, arith, false, append-nil}
use Rattle.std.specs.Prelude.{nat_lt}
use Rattle.std.proofs.lemmas.List.{take_all}
use Rattle.glk_base.specs.Bytes.{number_at}
use Rattle.glk_base.specs.BytesAt.{IsAt}
use Rattle.glk_base.specs.Fields.{fields_bytes, u64}
use Rattle.glk_base.proofs.BytesAt.{widths, length_fields, field_read, is_at_first, is_at_second, is_at_same}
use Rattle.glk_frames.specs.Memory.{read_in}
use Rattle.glk_frames_reader.specs.Opening.{region_address, region_end, findfunctab_address, gofunc_address}
use Rattle.glk_pctab.specs.Functions.{Pclntab}
use Rattle.glk_pctab.specs.Section.{section, pclntable_at}
use Rattle.glk_pctab.specs.Sound.{section_limit}
use Rattle.glk_pctab.proofs.SectionLemmas.{pclntable_end}
use Rattle.glk_pcln.specs.Laws.{TellsPieces}
use Rattle.glk_pcln.specs.ModuleData.{module_bytes, table_fields, place_fields, list_fields, AreSmall}
use Rattle.glk_pcln.specs.declared.module_data.ModuleAddresses.{ModuleAddresses}

-- field j of fields
nth_read : (fs : List (ℕ × ℕ)) (j n : ℕ) (r : List ℕ) (at k : ℕ) → IsAt r at (fields_bytes fs) → take j fs ++ u64 n ∷ drop (j + 1) fs ≡ fs → k ≡ at + widths (take j fs) → n < 256 ^ 8 → number_at 8 r k ≡ n
nth_read fs j n r at k is parts place small =
    field_read (take j fs) (drop (j + 1) fs) 8 n r at k (subst (λ (x : List (ℕ × ℕ)). IsAt r at (fields_bytes x)) (sym parts) is) place small

module _ (t : Pclntab) (a : ModuleAddresses) where
  whole : IsAt (module_bytes t a) 0 (fields_bytes (table_fields a.pclntab t) ++ fields_bytes (place_fields a t.text (t.text + t.text_size)) ++ fields_bytes (list_fields a))
  unfolding module_bytes
  whole = record { inside = omega arith; rest = []; is = sym (append-nil _) }

  first_two : IsAt (module_bytes t a) 0 (fields_bytes (table_fields a.pclntab t) ++ fields_bytes (place_fields a t.text (t.text + t.text_size)))
  first_two = is_at_first (module_bytes t a) 0 (fields_bytes (table_fields a.pclntab t) ++ fields_bytes (place_fields a t.text (t.text + t.text_size))) (fields_bytes (list_fields a)) whole

  tables_at : IsAt (module_bytes t a) 0 (fields_bytes (table_fields a.pclntab t))
  tables_at = is_at_first (module_bytes t a) 0 (fields_bytes (table_fields a.pclntab t)) (fields_bytes (place_fields a t.text (t.text + t.text_size))) first_two

  places_at : IsAt (module_bytes t a) 152 (fields_bytes (place_fields a t.text (t.text + t.text_size)))
  places_at =
      let x = fields_bytes (table_fields a.pclntab t) in
      let long : length x ≡ 152 = length_fields (table_fields a.pclntab t) in
      is_at_same (module_bytes t a) (0 + length x) 152 (fields_bytes (place_fields a t.text (t.text + t.text_size)))
      (is_at_second (module_bytes t a) 0 x (fields_bytes (place_fields a t.text (t.text + t.text_size))) first_two) (omega (arith, long))

  section_read : a.pclntab < 2 ^ 62 → number_at 8 (module_bytes t a) 0 ≡ a.pclntab
  section_read small = nth_read (table_fields a.pclntab t) 0 a.pclntab (module_bytes t a) 0 0 tables_at refl refl (omega (arith, small))

  records_read : a.pclntab < 2 ^ 62 → length (section t) < section_limit → number_at 8 (module_bytes t a) 104 ≡ a.pclntab + pclntable_at t
  records_read small short = nth_read (table_fields a.pclntab t) 13 (a.pclntab + pclntable_at t) (module_bytes t a) 0 104 tables_at refl refl (omega (arith, small, short, pclntable_end t))

  records_long : length (section t) < section_limit → number_at 8 (module_bytes t a) 112 ≡ length (section t) - pclntable_at t
  records_long short = nth_read (table_fields a.pclntab t) 14 (length (section t) - pclntable_at t) (module_bytes t a) 0 112 tables_at refl refl (omega (arith, short))

  table_read : a.findfunctab < 2 ^ 62 → findfunctab_address (module_bytes t a) ≡ a.findfunctab
  unfolding findfunctab_address
  table_read small = nth_read (place_fields a t.text (t.text + t.text_size)) 0 a.findfunctab (module_bytes t a) 152 152 places_at refl refl (omega (arith, small))

  base_read : a.rodata.start < 2 ^ 62 → gofunc_address (module_bytes t a) ≡ a.rodata.start
  unfolding gofunc_address
  base_read small = nth_read (place_fields a t.text (t.text + t.text_size)) 21 a.rodata.start (module_bytes t a) 152 320 places_at refl refl (omega (arith, small))

  address_read : a.pclntab < 2 ^ 62 → region_address (module_bytes t a) ≡ a.pclntab
  unfolding region_address
  address_read small = section_read small

  end_read : a.pclntab < 2 ^ 62 → length (section t) < section_limit → region_end (module_bytes t a) ≡ a.pclntab + length (section t)
  unfolding region_end
  end_read small short = omega (arith, records_read small short, records_long short, pclntable_end t)

-- a piece is read whole
whole_read : (at : ℕ) (bytes : List ℕ) → read_in ((at, bytes) ∷ []) at (length bytes) ≡ Some bytes
unfolding read_in
whole_read at bytes =
    let from : nat_lt at at ≡ false = grind arith in
    let to : nat_lt (at + length bytes) (at + length bytes) ≡ false = grind arith in
    let here : at - at ≡ 0 = omega arith in
    rw (from, to, here) (ap Some (take_all (length bytes) bytes (omega arith)))

pub told : (t : Pclntab) (a : ModuleAddresses) → AreSmall t a → length (section t) < section_limit → TellsPieces t a
told t a small short = record {
  region = λ memory has.
      let long : region_end (module_bytes t a) - region_address (module_bytes t a) ≡ length (section t) = omega (arith, end_read t a small.pclntab short, address_read t a small.pclntab) in
      rw (long, address_read t a small.pclntab) (has a.pclntab (length (section t)) (section t) (whole_read a.pclntab (section t)));
  table = table_read t a small.table;
  base = base_read t a small.base;
}
