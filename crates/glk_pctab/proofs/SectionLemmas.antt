-- The parts of the section, and the numbers of its header.
use Rattle.std.proofs.Common.{◌≡◌, ℕ, suc, ◌+◌, ◌-◌, ◌*◌, ◌<◌, ◌≤◌, List, [], ◌∷◌, ◌++◌, length, map, refl, ap, ◌∙◌, arith, length-append, replicate, lit<}
use Rattle.std.proofs.lemmas.List.{length-map}
use Rattle.glk_base.specs.Fields.{fields_bytes, byte, u32, u64}
use Rattle.glk_base.specs.BytesAt.{IsAt}
use Rattle.glk_base.proofs.BytesAt.{is_at_here, length_fields, field_read}
use Rattle.glk_frames.specs.Written.{u32s_bytes}
use Rattle.glk_frames.specs.Region.{function_count, funcnametab_offset, cutab_offset, filetab_offset, pctab_offset, pclntable_offset}
use Rattle.glk_frames.proofs.AtLemmas.{is_at_longer, is_at_end, is_at_inside, length_u32s}
use Rattle.glk_pctab.specs.FirstUse.{concat_of}
use Rattle.glk_pctab.specs.Functions.{Pclntab, Function}
use Rattle.glk_pctab.specs.Section.{zero_byte, entries, records, records_from, record_offsets, functab, functab_end, starts, zeros_to, next_multiple, names, files, tables, file_offset, header_bytes, header_fields, before_cutab, before_pclntable, cutab, pclntable, cutab_at, filetab_at, pctab_at, pclntable_at, section}
use Rattle.glk_pctab.specs.Sound.{section_limit}
use Rattle.glk_pctab.proofs.OffsetLemmas.{is_at_equal, length_zeros_to, length_zeros_to_4, next_above_4, records_after, length_functab, length_offsets}

pub length_header : (t : Pclntab) → length (header_bytes t) ≡ 72
unfolding header_bytes
length_header t = length_fields (header_fields t)

pub length_before_cutab : (t : Pclntab) → length (before_cutab t) ≡ cutab_at t
unfolding before_cutab cutab_at
length_before_cutab t =
    let n = concat_of zero_byte (names t) in
    let size : length (header_bytes t ++ n) ≡ 72 + length n = omega (arith, length_header t, length-append (header_bytes t) n) in
    length_zeros_to_4 (header_bytes t ++ n) ∙ ap (λ k. next_multiple 4 k) size

pub length_cutab : (t : Pclntab) → length (cutab t) ≡ 4 * length (entries t)
unfolding cutab
length_cutab t = length_u32s (map (file_offset (files t)) (entries t)) ∙ ap (λ k. 4 * k) (length-map (entries t) (file_offset (files t)))

-- what is before pclntable is in the section
is_before_pclntable : (t : Pclntab) (at : ℕ) (x : List ℕ) → IsAt (before_pclntable t) at x → IsAt (section t) at x
unfolding section zeros_to
is_before_pclntable t at x s =
    is_at_longer (before_pclntable t ++ replicate (next_multiple 8 (length (before_pclntable t)) - length (before_pclntable t)) 0) (pclntable t) at x
    (is_at_longer (before_pclntable t) (replicate (next_multiple 8 (length (before_pclntable t)) - length (before_pclntable t)) 0) at x s)

is_before_cutab : (t : Pclntab) (at : ℕ) (x : List ℕ) → IsAt (header_bytes t ++ concat_of zero_byte (names t)) at x → IsAt (section t) at x
unfolding before_pclntable before_cutab zeros_to
is_before_cutab t at x s =
    let h = header_bytes t ++ concat_of zero_byte (names t) in
    let zeros = replicate (next_multiple 4 (length h) - length h) 0 in
    let f = concat_of zero_byte (files t) in
    let z : List ℕ = 0 ∷ [] in
    let p = concat_of [] (tables t) in
    is_before_pclntable t at x
    (is_at_longer ((h ++ zeros) ++ cutab t ++ f ++ z) p at x (is_at_longer ((h ++ zeros) ++ cutab t ++ f) z at x (is_at_longer ((h ++ zeros) ++ cutab t) f at x (is_at_longer (h ++ zeros) (cutab t) at x (is_at_longer h zeros at x s)))))

pub header_is_at : (t : Pclntab) → IsAt (section t) 0 (fields_bytes (header_fields t))
unfolding header_bytes
header_is_at t = is_before_cutab t 0 (fields_bytes (header_fields t)) (is_at_here [] (fields_bytes (header_fields t)) (concat_of zero_byte (names t)))

pub names_are_at : (t : Pclntab) → IsAt (section t) 72 (concat_of zero_byte (names t))
names_are_at t =
    let n = concat_of zero_byte (names t) in
    is_before_cutab t 72 n (is_at_equal (header_bytes t ++ n) (length (header_bytes t)) 72 n (length_header t) (is_at_end (header_bytes t) n))

pub cutab_is_at : (t : Pclntab) → IsAt (section t) (cutab_at t) (u32s_bytes (map (file_offset (files t)) (entries t)))
unfolding before_pclntable cutab
cutab_is_at t =
    let c = u32s_bytes (map (file_offset (files t)) (entries t)) in
    let f = concat_of zero_byte (files t) in
    let z : List ℕ = 0 ∷ [] in
    let p = concat_of [] (tables t) in
    is_before_pclntable t (cutab_at t) c (is_at_longer (before_cutab t ++ c ++ f ++ z) p (cutab_at t) c (is_at_longer (before_cutab t ++ c ++ f) z (cutab_at t) c (is_at_longer (before_cutab t ++ c) f (cutab_at t) c
    (is_at_equal (before_cutab t ++ c) (length (before_cutab t)) (cutab_at t) c (length_before_cutab t) (is_at_end (before_cutab t) c)))))

pub files_are_at : (t : Pclntab) → IsAt (section t) (filetab_at t) (concat_of zero_byte (files t))
unfolding before_pclntable filetab_at
files_are_at t =
    let c = cutab t in
    let f = concat_of zero_byte (files t) in
    let z : List ℕ = 0 ∷ [] in
    let p = concat_of [] (tables t) in
    let at = cutab_at t + 4 * length (entries t) in
    let size : length (before_cutab t ++ c) ≡ at = omega (arith, length-append (before_cutab t) c, length_before_cutab t, length_cutab t) in
    is_before_pclntable t at f (is_at_longer (before_cutab t ++ c ++ f ++ z) p at f (is_at_longer (before_cutab t ++ c ++ f) z at f (is_at_equal (before_cutab t ++ c ++ f) (length (before_cutab t ++ c)) at f size (is_at_end (before_cutab t ++ c) f))))

pub tables_are_at : (t : Pclntab) → IsAt (section t) (pctab_at t + 1) (concat_of [] (tables t))
unfolding before_pclntable pctab_at filetab_at
tables_are_at t =
    let c = cutab t in
    let f = concat_of zero_byte (files t) in
    let z : List ℕ = 0 ∷ [] in
    let p = concat_of [] (tables t) in
    let size : length (before_cutab t ++ c ++ f ++ z) ≡ cutab_at t + 4 * length (entries t) + length f + 1 = omega (arith, length-append (before_cutab t ++ c ++ f) z, length-append (before_cutab t ++ c) f, length-append (before_cutab t) c, length_before_cutab t, length_cutab t) in
    is_before_pclntable t (cutab_at t + 4 * length (entries t) + length f + 1) p (is_at_equal (before_cutab t ++ c ++ f ++ z ++ p) (length (before_cutab t ++ c ++ f ++ z)) (cutab_at t + 4 * length (entries t) + length f + 1) p size (is_at_end (before_cutab t ++ c ++ f ++ z) p))

pub pclntable_is_at : (t : Pclntab) → IsAt (section t) (pclntable_at t) (pclntable t)
unfolding section before_pclntable pclntable_at pctab_at filetab_at
pclntable_is_at t =
    let c = cutab t in
    let f = concat_of zero_byte (files t) in
    let z : List ℕ = 0 ∷ [] in
    let p = concat_of [] (tables t) in
    let b = before_cutab t ++ c ++ f ++ z ++ p in
    let size : length b ≡ cutab_at t + 4 * length (entries t) + length f + 1 + length p = omega (arith, length-append (before_cutab t ++ c ++ f ++ z) p, length-append (before_cutab t ++ c ++ f) z, length-append (before_cutab t ++ c) f, length-append (before_cutab t) c, length_before_cutab t, length_cutab t) in
    is_at_equal (zeros_to 8 b ++ pclntable t) (length (zeros_to 8 b)) (pclntable_at t) (pclntable t)
    (length_zeros_to b ∙ ap (λ k. next_multiple 8 k) size) (is_at_end (zeros_to 8 b) (pclntable t))

-- ---- each part is shorter than the section
pub names_end : (t : Pclntab) → 72 + length (concat_of zero_byte (names t)) ≤ length (section t)
names_end t = is_at_inside (section t) 72 (concat_of zero_byte (names t)) (names_are_at t)

pub cutab_end : (t : Pclntab) → cutab_at t + 4 * length (entries t) ≤ length (section t)
cutab_end t =
    let inside = is_at_inside (section t) (cutab_at t) (u32s_bytes (map (file_offset (files t)) (entries t))) (cutab_is_at t) in
    omega (arith, inside, length_u32s (map (file_offset (files t)) (entries t)), length-map (entries t) (file_offset (files t)))

pub names_before : (t : Pclntab) → 72 + length (concat_of zero_byte (names t)) ≤ cutab_at t
unfolding cutab_at
names_before t = next_above_4 (72 + length (concat_of zero_byte (names t)))

pub filetab_after : (t : Pclntab) → cutab_at t + 4 * length (entries t) ≡ filetab_at t
unfolding filetab_at
filetab_after t = refl

pub files_end : (t : Pclntab) → filetab_at t + length (concat_of zero_byte (files t)) ≤ length (section t)
files_end t = is_at_inside (section t) (filetab_at t) (concat_of zero_byte (files t)) (files_are_at t)

pub tables_end : (t : Pclntab) → pctab_at t + 1 + length (concat_of [] (tables t)) ≤ length (section t)
tables_end t = is_at_inside (section t) (pctab_at t + 1) (concat_of [] (tables t)) (tables_are_at t)

pub pclntable_end : (t : Pclntab) → pclntable_at t + length (pclntable t) ≤ length (section t)
pclntable_end t = is_at_inside (section t) (pclntable_at t) (pclntable t) (pclntable_is_at t)

pub length_records_from : (units : List (List (List ℕ))) (ns ts : List (List ℕ)) (tree : ℕ) (fs : List Function) → length (records_from units ns ts tree fs) ≡ length fs
unfolding records_from
length_records_from units ns ts tree [] = refl
length_records_from units ns ts tree (f ∷ fs) = ap suc (length_records_from units ns ts (tree + 16 * length f.inlined) fs)

pub length_records : (t : Pclntab) → length (records t) ≡ length t.functions
unfolding records
length_records t = length_records_from t.units (names t) (tables t) t.trees t.functions

pub length_starts : (t : Pclntab) → length (starts t.functions) ≡ length t.functions
length_starts t = length-map t.functions (λ (f : Function). f.start)

abbrev pub offsets : Pclntab → List ℕ
offsets t = record_offsets (records t) (functab_end t.functions)

pub same_length : (t : Pclntab) → length (offsets t) ≡ length (starts t.functions)
same_length t = omega (arith, length_offsets (records t) (functab_end t.functions), length_records t, length_starts t)

pub length_all_functab : (t : Pclntab) → length (functab (starts t.functions) (offsets t) t.text_size) ≡ functab_end t.functions
length_all_functab t = omega (arith, length_functab (starts t.functions) (offsets t) t.text_size (same_length t), length_starts t)

pub functab_before : (t : Pclntab) → functab_end t.functions ≤ length (pclntable t)
unfolding pclntable
functab_before t =
    let table = functab (starts t.functions) (offsets t) t.text_size in
    let more = records_after (records t) table in
    omega (arith, length_all_functab t, ap length more.1, length-append table more.0)

-- ---- the header is read
module _ (t : Pclntab) (short : length (section t) < section_limit) where
  pub functions_read : function_count (section t) ≡ length t.functions
  unfolding function_count
  functions_read = field_read (u32 4294967281 ∷ byte 0 ∷ byte 0 ∷ byte 1 ∷ byte 8 ∷ []) _ 8 (length t.functions) (section t) 0 8 (header_is_at t) refl (omega (arith, functab_before t, pclntable_end t, short))

  pub names_read : funcnametab_offset (section t) ≡ 72
  unfolding funcnametab_offset
  names_read = field_read (u32 4294967281 ∷ byte 0 ∷ byte 0 ∷ byte 1 ∷ byte 8 ∷ u64 (length t.functions) ∷ u64 (length (files t)) ∷ u64 t.text ∷ []) _ 8 72 (section t) 0 32 (header_is_at t) refl (lit< tt)

  pub cutab_read : cutab_offset (section t) ≡ cutab_at t
  unfolding cutab_offset
  cutab_read = field_read (u32 4294967281 ∷ byte 0 ∷ byte 0 ∷ byte 1 ∷ byte 8 ∷ u64 (length t.functions) ∷ u64 (length (files t)) ∷ u64 t.text ∷ u64 72 ∷ []) _ 8 (cutab_at t) (section t) 0 40 (header_is_at t) refl (omega (arith, cutab_end t, short))

  pub filetab_read : filetab_offset (section t) ≡ filetab_at t
  unfolding filetab_offset
  filetab_read = field_read (u32 4294967281 ∷ byte 0 ∷ byte 0 ∷ byte 1 ∷ byte 8 ∷ u64 (length t.functions) ∷ u64 (length (files t)) ∷ u64 t.text ∷ u64 72 ∷ u64 (cutab_at t) ∷ []) _ 8 (filetab_at t) (section t) 0 48 (header_is_at t) refl (omega (arith, files_end t, short))

  pub pctab_read : pctab_offset (section t) ≡ pctab_at t
  unfolding pctab_offset
  pctab_read = field_read (u32 4294967281 ∷ byte 0 ∷ byte 0 ∷ byte 1 ∷ byte 8 ∷ u64 (length t.functions) ∷ u64 (length (files t)) ∷ u64 t.text ∷ u64 72 ∷ u64 (cutab_at t) ∷ u64 (filetab_at t) ∷ []) _ 8 (pctab_at t) (section t) 0 56 (header_is_at t) refl (omega (arith, tables_end t, short))

  pub pclntable_read : pclntable_offset (section t) ≡ pclntable_at t
  unfolding pclntable_offset
  pclntable_read = field_read (u32 4294967281 ∷ byte 0 ∷ byte 0 ∷ byte 1 ∷ byte 8 ∷ u64 (length t.functions) ∷ u64 (length (files t)) ∷ u64 t.text ∷ u64 72 ∷ u64 (cutab_at t) ∷ u64 (filetab_at t) ∷ u64 (pctab_at t) ∷ []) _ 8 (pclntable_at t) (section t) 0 64 (header_is_at t) refl (omega (arith, pclntable_end t, short))
