-- The parts make the section.
use Rattle.std.proofs.Common.{◌≡◌, ◌∙◌, ℕ, ◌+◌, ◌*◌, ◌%◌, ◌^◌, ◌<◌, ◌≤◌, List, [], ◌∷◌, ◌++◌, length, map, Option, Some, None, refl, sym, ap, subst, arith, length-append}
use Rattle.std.specs.Prelude.{MatchOption}
use Rattle.std.proofs.lemmas.List.{length-map}
use Rattle.glk_base.specs.Fields.{fields_bytes, byte, u32, u64}
use Rattle.glk_frames.specs.Written.{u32s_bytes}
use Rattle.glk_pctab.specs.FirstUse.{concat_of, first_use}
use Rattle.glk_pctab.specs.Contents.{Contents, clamped}
use denote.Ref.{Bor}
use Rattle.glk_pctab.specs.declared.function.Pclntab.{Pclntab as PclntabValue}
use Rattle.glk_pctab.specs.Views.{view, texts_of, units_view, functions_view}
use Rattle.glk_pctab.specs.Functions.{Pclntab, entries_named}
use Rattle.glk_pctab.specs.Section.{zero_byte, names, tables, files, entries, file_offset, section, header_bytes, cutab, before_cutab, before_pclntable, pclntable, cutab_at, filetab_at, pctab_at, pclntable_at, zeros_to, next_multiple, records, records_from, with_records, functab, functab_end, starts, files_of, named_files, trees_of, trees}
use Rattle.glk_pctab.specs.Sound.{section_limit, CanWriteAll}
use Rattle.glk_pctab.specs.Building.{offsets_from, end_from, entries_view, file_view, AllCanWrite, AllAreSmall, AllHaveUnit}
use Rattle.glk_pctab.specs.Parts.{cutab_by, pclntable_by, ArePartsOf, HaveLengths}
use Rattle.glk_pctab.specs.declared.section.Parts.{Parts}
use Rattle.glk_pctab.proofs.OffsetLemmas.{length_zeros_to}
use Rattle.glk_pctab.proofs.SectionLemmas.{offsets, length_all_functab, length_before_cutab, length_cutab, names_end, cutab_end, files_end, tables_end, pclntable_end, functab_before}
use Rattle.glk_pctab.proofs.RecordSteps.{length_with_records, offsets_same, records_after_part, all_from, all_small, all_units, functions_counted}
use Rattle.glk_pctab.proofs.FileSteps.{texts_counted}
use Rattle.glk_pctab.proofs.MemberLemmas.{length_entries}

-- ---- lengths
abbrev pub names_length : Pclntab → ℕ
names_length t = length (concat_of zero_byte (names t))

abbrev pub files_length : Pclntab → ℕ
files_length t = length (concat_of zero_byte (files t))

abbrev pub tables_length : Pclntab → ℕ
tables_length t = length (concat_of [] (tables t))

pub by_at : (t : Pclntab) → pclntable_by (names_length t) (length (entries t)) (files_length t) (tables_length t) ≡ pclntable_at t
unfolding pclntable_by cutab_by pclntable_at pctab_at filetab_at cutab_at
by_at t = refl

pub cutab_by_at : (t : Pclntab) → cutab_by (names_length t) ≡ cutab_at t
unfolding cutab_by cutab_at
cutab_by_at t = refl

pub filetab_by_at : (t : Pclntab) → cutab_by (names_length t) + 4 * length (entries t) ≡ filetab_at t
unfolding cutab_by filetab_at cutab_at
filetab_by_at t = refl

pub pctab_by_at : (t : Pclntab) → cutab_by (names_length t) + 4 * length (entries t) + files_length t ≡ pctab_at t
unfolding cutab_by pctab_at filetab_at cutab_at
pctab_by_at t = refl

length_before : (t : Pclntab) → length (before_pclntable t) ≡ pctab_at t + 1 + tables_length t
unfolding before_pclntable pctab_at filetab_at
length_before t =
    let c = cutab t in
    let f = concat_of zero_byte (files t) in
    let z : List ℕ = 0 ∷ [] in
    let p = concat_of [] (tables t) in
    omega (arith, length-append (before_cutab t ++ c ++ f ++ z) p, length-append (before_cutab t ++ c ++ f) z, length-append (before_cutab t ++ c) f, length-append (before_cutab t) c, length_before_cutab t, length_cutab t)

length_padded_before : (t : Pclntab) → length (zeros_to 8 (before_pclntable t)) ≡ pclntable_at t
unfolding pclntable_at
length_padded_before t = length_zeros_to (before_pclntable t) ∙ ap (λ n. next_multiple 8 n) (length_before t)

length_pclntable : (t : Pclntab) → length (pclntable t) ≡ end_from (functab_end t.functions) t.functions
unfolding pclntable records
length_pclntable t = length_with_records t.units (names t) (tables t) t.trees (functab (starts t.functions) (offsets t) t.text_size) t.functions ∙ ap (λ n. end_from n t.functions) (length_all_functab t)

pub length_section : (t : Pclntab) → length (section t) ≡ pclntable_at t + end_from (functab_end t.functions) t.functions
unfolding section
length_section t = omega (arith, length-append (zeros_to 8 (before_pclntable t)) (pclntable t), length_padded_before t, length_pclntable t)

-- ---- what is before pclntable
pub before_is : (t : Pclntab) (np fp tp : Contents) (es : List (Option (List ℕ))) (o0 o1 o2 o3 o4 o5 o6 o7 : List ℕ)
    → np ≡ record { mark = zero_byte; elements = names t } → fp ≡ record { mark = zero_byte; elements = files t } → tp ≡ record { mark = []; elements = tables t } → es ≡ entries t
    → o0 ≡ [] → o1 ≡ o0 ++ header_bytes t → o2 ≡ o1 ++ concat_of np.mark np.elements → o3 ≡ zeros_to 4 o2 → o4 ≡ o3 ++ u32s_bytes (map (file_offset fp.elements) es)
    → o5 ≡ o4 ++ concat_of fp.mark fp.elements → o6 ≡ o5 ++ 0 ∷ [] → o7 ≡ o6 ++ concat_of tp.mark tp.elements → o7 ≡ before_pclntable t
unfolding before_pclntable before_cutab cutab
before_is t np fp tp es o0 o1 o2 o3 o4 o5 o6 o7 n f p e e0 e1 e2 e3 e4 e5 e6 e7 =
    let f1 : o1 ≡ header_bytes t = e1 ∙ ap (λ s. s ++ header_bytes t) e0 in
    let f2 : o2 ≡ header_bytes t ++ concat_of zero_byte (names t) = e2 ∙ ap (λ (c : Contents). o1 ++ concat_of c.mark c.elements) n ∙ ap (λ s. s ++ concat_of zero_byte (names t)) f1 in
    let f3 : o3 ≡ before_cutab t = e3 ∙ ap (λ s. zeros_to 4 s) f2 in
    let f4 : o4 ≡ before_cutab t ++ cutab t = e4 ∙ ap (λ (c : Contents). o3 ++ u32s_bytes (map (file_offset c.elements) es)) f ∙ ap (λ (xs : List (Option (List ℕ))). o3 ++ u32s_bytes (map (file_offset (files t)) xs)) e ∙ ap (λ s. s ++ cutab t) f3 in
    let f5 : o5 ≡ before_cutab t ++ cutab t ++ concat_of zero_byte (files t) = e5 ∙ ap (λ (c : Contents). o4 ++ concat_of c.mark c.elements) f ∙ ap (λ s. s ++ concat_of zero_byte (files t)) f4 in
    let f6 : o6 ≡ before_cutab t ++ cutab t ++ concat_of zero_byte (files t) ++ zero_byte = e6 ∙ ap (λ s. s ++ zero_byte) f5 in
    e7 ∙ ap (λ (c : Contents). o6 ++ concat_of c.mark c.elements) p ∙ ap (λ s. s ++ concat_of [] (tables t)) f6

-- ---- the whole
whole_8 : (b : List ℕ) → length (zeros_to 8 b) % 8 ≡ 0
unfolding next_multiple
whole_8 b = omega (arith, length_zeros_to b)

pub section_is : (t : Pclntab) (n : ℕ) (np tp : Contents) (o1 o2 o3 o4 : List ℕ) → n ≡ length t.functions
    → np ≡ record { mark = zero_byte; elements = names t } → tp ≡ record { mark = []; elements = tables t }
    → o1 ≡ before_pclntable t → o2 ≡ zeros_to 8 o1 → o3 ≡ o2 ++ functab (starts t.functions) (offsets_from (8 * n + 4) t.functions) t.text_size
    → o4 ≡ with_records (records_from t.units np.elements tp.elements t.trees t.functions) o3 → o4 ≡ section t
unfolding section pclntable records
section_is t n np tp o1 o2 o3 o4 count ne te e1 e2 e3 e4 =
    let b = zeros_to 8 (before_pclntable t) in
    let table = functab (starts t.functions) (offsets t) t.text_size in
    let f2 : o2 ≡ b = e2 ∙ ap (λ s. zeros_to 8 s) e1 in
    let os : offsets_from (8 * n + 4) t.functions ≡ offsets t = ap (λ k. offsets_from (8 * k + 4) t.functions) count ∙ sym (offsets_same t.units (names t) (tables t) t.trees (functab_end t.functions) t.functions) in
    let f3 : o3 ≡ b ++ table = e3 ∙ ap (λ s. s ++ functab (starts t.functions) (offsets_from (8 * n + 4) t.functions) t.text_size) f2 ∙ ap (λ (xs : List ℕ). b ++ functab (starts t.functions) xs t.text_size) os in
    e4 ∙ ap (λ (c : Contents). with_records (records_from t.units c.elements tp.elements t.trees t.functions) o3) ne
    ∙ ap (λ (c : Contents). with_records (records_from t.units (names t) c.elements t.trees t.functions) o3) te
    ∙ ap (λ s. with_records (records_from t.units (names t) (tables t) t.trees t.functions) s) f3
    ∙ records_after_part (records_from t.units (names t) (tables t) t.trees t.functions) b table (whole_8 (before_pclntable t))

-- ---- pcHeader
pub header_is : (t : Pclntab) (p : Parts) (n k : ℕ) → ArePartsOf t p → n ≡ length t.functions → k ≡ length (files t)
    → fields_bytes (u32 4294967281 ∷ byte 0 ∷ byte 0 ∷ byte 1 ∷ byte 8 ∷ u64 n ∷ u64 k ∷ u64 t.text ∷ u64 72 ∷ u64 p.cutab ∷ u64 p.filetab ∷ u64 p.pctab ∷ u64 p.pclntable ∷ []) ≡ header_bytes t
unfolding header_bytes
header_is t p n k are e1 e2 =
    let a = are.cutab in
    let b = are.filetab in
    let c = are.pctab in
    let d = are.pclntable in
    rw (e1, e2, a, b, c, d) refl

-- ---- limits
-- a length that is not clamped below the limit
pub unclamped : (n m : ℕ) → m ≡ clamped n → m < section_limit → m ≡ n
unclamped n m is low = omega (arith, is, low)

pclntable_rises : (n e f t n' e' f' t' : ℕ) → n ≤ n' → e ≤ e' → f ≤ f' → t ≤ t' → pclntable_by n e f t ≤ pclntable_by n' e' f' t'
unfolding pclntable_by cutab_by next_multiple
pclntable_rises n e f t n' e' f' t' a b c d = omega (arith, a, b, c, d)

-- no part is longer than the whole
pub parts_low : (n e f t r : ℕ) → pclntable_by n e f t + r < section_limit → (n < section_limit) × (f < section_limit) × (t < section_limit) × (1 + t < section_limit)
unfolding pclntable_by cutab_by next_multiple
parts_low n e f t r low = (omega (arith, low), omega (arith, low), omega (arith, low), omega (arith, low))

-- a section that is too long by its clamped lengths is too long
pub too_long : (t : Pclntab) (n e f k r : ℕ) → n ≡ clamped (names_length t) → e ≡ length (entries t) → f ≡ clamped (files_length t) → k ≡ clamped (tables_length t) → r ≡ end_from (functab_end t.functions) t.functions
    → section_limit ≤ pclntable_by n e f k + r → section_limit ≤ length (section t)
too_long t n e f k r en ee ef ek er long =
    let up = pclntable_rises n e f k (names_length t) (length (entries t)) (files_length t) (tables_length t) (omega (arith, en)) (omega (arith, ee)) (omega (arith, ef)) (omega (arith, ek)) in
    omega (arith, long, up, er, length_section t, by_at t)

-- and else it is as long as they say
pub parts_are : (t : Pclntab) (p : Parts) (n e f k r : ℕ) → n ≡ clamped (names_length t) → e ≡ length (entries t) → f ≡ clamped (files_length t) → k ≡ clamped (tables_length t) → r ≡ end_from (functab_end t.functions) t.functions
    → p.cutab ≡ cutab_by n → p.filetab ≡ cutab_by n + 4 * e → p.pctab ≡ cutab_by n + 4 * e + f → p.pclntable ≡ pclntable_by n e f k → pclntable_by n e f k + r < section_limit
    → HaveLengths p n e f k (pclntable_by n e f k + r) → ArePartsOf t p × (length (section t) < section_limit)
parts_are t p n e f k r en ee ef ek er ec el eb ep low long =
    let ls = parts_low n e f k r low in
    let un = unclamped (names_length t) n en ls.0 in
    let uf = unclamped (files_length t) f ef ls.1 in
    let uk = unclamped (tables_length t) k ek ls.2 in
    let whole : pclntable_by n e f k ≡ pclntable_at t = rw (un, ee, uf, uk) (by_at t) in (
      record {
        cutab = ec ∙ rw un (cutab_by_at t);
        filetab = el ∙ rw (un, ee) (filetab_by_at t);
        pctab = eb ∙ rw (un, ee, uf) (pctab_by_at t);
        pclntable = ep ∙ whole;
        lengths = record {
          names_long = long.names_long ∙ un;
          entries_long = long.entries_long ∙ ee;
          files_long = long.files_long ∙ uf;
          tables_long = long.tables_long ∙ ap (λ m. 1 + m) uk;
          ends = omega (arith, long.ends, whole, er, length_section t);
        };
      },
      omega (arith, low, whole, er, length_section t),
    )

-- a section of so many functions or entries is too long
pub many_functions : (t : Pclntab) → section_limit ≤ length t.functions → section_limit ≤ length (section t)
many_functions t many = omega (arith, many, functab_before t, pclntable_end t)

pub many_entries : (t : Pclntab) → section_limit ≤ length (entries t) → section_limit ≤ length (section t)
many_entries t many = omega (arith, many, cutab_end t)

-- what the section's length bounds
pub short_names : (t : Pclntab) → length (section t) < section_limit → names_length t < 2 ^ 32
short_names t short = omega (arith, short, names_end t)

pub short_files : (t : Pclntab) → length (section t) < section_limit → files_length t < 2 ^ 32
short_files t short = omega (arith, short, files_end t)

pub short_tables : (t : Pclntab) → length (section t) < section_limit → 1 + tables_length t < 2 ^ 32
short_tables t short = omega (arith, short, tables_end t)

-- ---- what `build` is given
pub can_all : (tv : PclntabValue) → CanWriteAll (view tv) → AllCanWrite (length tv.units.now) tv.trees (functions_view tv.functions.now)
can_all tv can =
    subst (λ (n : ℕ). AllCanWrite n tv.trees (functions_view tv.functions.now)) (length-map tv.units.now (λ (u : Bor (List (Bor (List ℕ)))). texts_of u.now))
    (all_from (length (units_view tv.units.now)) tv.trees (functions_view tv.functions.now) can)

pub small_all : (tv : PclntabValue) → CanWriteAll (view tv) → AllAreSmall (functions_view tv.functions.now)
small_all tv can = all_small (length tv.units.now) tv.trees (functions_view tv.functions.now) (can_all tv can)

pub units_all : (tv : PclntabValue) → CanWriteAll (view tv) → AllHaveUnit (length tv.units.now) (functions_view tv.functions.now)
units_all tv can = all_units (length tv.units.now) tv.trees (functions_view tv.functions.now) (can_all tv can)

pub entries_counted : (t : Pclntab) → length (entries t) ≡ length (files_of t.units)
entries_counted t = length_entries (entries_named t.units t.functions) 0 (files_of t.units)

-- as many entries as files
pub files_counted : (tv : PclntabValue) (fs : List (Bor (List ℕ))) → texts_of fs ≡ files_of (units_view tv.units.now) → length fs ≡ length (entries (view tv))
files_counted tv fs is = sym (texts_counted fs) ∙ ap (λ (xs : List (List ℕ)). length xs) is ∙ sym (entries_counted (view tv))

pub entries_long : (tv : PclntabValue) (es : List (Option (Bor (List ℕ)))) → entries_view es ≡ entries (view tv) → length es ≡ length (entries (view tv))
entries_long tv es is = sym (length-map es file_view) ∙ ap (λ (xs : List (Option (List ℕ))). length xs) is

pub end_is : (tv : PclntabValue) → end_from (8 * length tv.functions.now + 4) (functions_view tv.functions.now) ≡ end_from (functab_end (view tv).functions) (view tv).functions
end_is tv = ap (λ (n : ℕ). end_from (8 * n + 4) (functions_view tv.functions.now)) (functions_counted tv.functions.now)

-- where functab and the records alone are too long
pub long_records : (t : Pclntab) → section_limit ≤ end_from (functab_end t.functions) t.functions → section_limit ≤ length (section t)
long_records t long = omega (arith, long, length_section t)

-- ---- pools
pub pool_mark : (p : Contents) (mark : List ℕ) (xs : List (List ℕ)) → p ≡ record { mark = mark; elements = xs } → p.mark ≡ mark
pool_mark p mark xs is = ap (λ (c : Contents). c.mark) is

pub pool_short : (p : Contents) (mark : List ℕ) (xs : List (List ℕ)) (n : ℕ) → p ≡ record { mark = mark; elements = xs } → length (concat_of mark xs) < n → length (concat_of mark p.elements) < n
pool_short p mark xs n is short = subst (λ (c : Contents). length (concat_of mark c.elements) < n) (sym is) short

pub pool_short_1 : (p : Contents) (mark : List ℕ) (xs : List (List ℕ)) (n : ℕ) → p ≡ record { mark = mark; elements = xs } → 1 + length (concat_of mark xs) < n → 1 + length (concat_of mark p.elements) < n
pool_short_1 p mark xs n is short = subst (λ (c : Contents). 1 + length (concat_of mark c.elements) < n) (sym is) short

pub pool_size : (p : Contents) (mark : List ℕ) (xs : List (List ℕ)) (n : ℕ) → p ≡ record { mark = mark; elements = xs } → n ≡ clamped (length (concat_of p.mark p.elements)) → n ≡ clamped (length (concat_of mark xs))
pool_size p mark xs n is size = size ∙ ap (λ (c : Contents). clamped (length (concat_of c.mark c.elements))) is

pub short_records : (tv : PclntabValue) → length (section (view tv)) < section_limit → end_from (8 * length tv.functions.now + 4) (functions_view tv.functions.now) < 2 ^ 32
short_records tv short = omega (arith, short, end_is tv, length_section (view tv))

pub trees_are : (tv : PclntabValue) (p : Contents) (none made : List ℕ) → p ≡ record { mark = zero_byte; elements = names (view tv) } → none ≡ [] → made ≡ none ++ trees_of p.elements (functions_view tv.functions.now) → made ≡ trees (view tv)
trees_are tv p none made is empty pushed =
    pushed ∙ ap (λ (s : List ℕ). s ++ trees_of p.elements (functions_view tv.functions.now)) empty ∙ ap (λ (c : Contents). trees_of c.elements (functions_view tv.functions.now)) is

-- a pool of files by equal entries
abbrev pub files_pool : List (Option (List ℕ)) → Contents
files_pool es = record { mark = zero_byte; elements = first_use (named_files es) }

pub new_pool : (xs ys : List (Option (List ℕ))) → xs ≡ ys → files_pool xs ≡ files_pool ys
new_pool xs ys same = ap files_pool same

-- what holds of an offer
pub match_parts : {A : Type 0} {P P' : Type 0} {Q Q' : A → Type 0} (r : Option A) → (P → P') → ((p : A) → Q p → Q' p) → MatchOption r P Q → MatchOption r P' Q'
match_parts None f g is = f is
match_parts (Some p) f g is = g p is
