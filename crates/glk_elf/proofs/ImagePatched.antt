-- An image in which bytes of sections were changed is the image of the changed sections.
use Rattle.std.proofs.Common.{Some, ◌≡◌, ◌+◌, ◌-◌, ◌<◌, ◌≤◌, ◌⊎◌, ⊎_elim, ◌∙◌, inl, inr, ℕ, zero, suc, List, [], ◌∷◌, ◌++◌, length, take, drop, map, replicate, get_or, arith, refl, sym, ap, subst, length-append}
use Rattle.std.proofs.lemmas.List.{append_assoc, append-nil, length-map, get_or-map, get_or-take, get_or-drop, get_or_append_left, get_or-append_right, get_or_past, length-take-le, length-drop, take_more, ext_get_or}
use Rattle.std.specs.Prelude.{slice_range}
use mathlib.Core.Logic.{dite}
use native.Mathlib.Decide.{dec_lt}
use Rattle.glk_base.specs.Fields.{fields_bytes}
use Rattle.glk_elf.specs.Gabi.{section_header_fields, symbol_fields}
use Rattle.glk_elf.specs.Sections.{text, written_data, placed_kinds, Kind, strtab_kind, shstrtab_kind, section_names}
use Rattle.glk_elf.specs.Image.{Parts, Row, Section, section, no_section, image_base, end_of, with_names, with_string_table, row_names, with_symbols, with_symbol_table, symbol_of, null_symbol, padded_to, with_sections, leading_headers, placed_header, null_header, symtab_header, strings_header, with_placed_headers, with_section_headers, with_tables, symtab_at, strtab_at, strtab_size, shstrtab_at, shstrtab_size, headers_at, image_size, elf_bytes}
use Rattle.glk_elf.specs.Placing.{ArePlaced, IsPlaced, text_start, sizes_of, addrs_of}
use Rattle.glk_elf.specs.SectionBytes.{file_offset, bytes_at, section_from, parts_from, IsOutsideSections, DiffersInSections, IsImageOfChanged, SectionsInFile, SectionsPatched, MemoryWithin}
use Rattle.glk_base.specs.BytesAt.{IsAt}
use Rattle.glk_elf.proofs.RecordsBack.{byte_of_part, range_of_part}
use Rattle.glk_elf.proofs.ImageAt.{ImageAt, image_at, room_before}
use Rattle.glk_elf.specs.ReaderSections.{loaded}
use Rattle.glk_elf.proofs.ImageHeaders.{HeadersBack, headers_back}
use Rattle.glk_elf.proofs.ImageSymbols.{segments_back}
use Rattle.glk_elf.proofs.ImageMemory.{part_loaded}
use Rattle.glk_elf.proofs.LengthLemmas.{padded_length, leading_length, with_more, with_nothing, image_length}
use Rattle.glk_elf.proofs.Elements.{elements, elements_are}
use Rattle.glk_elf.proofs.PlaceLemmas.{section_at, addr_above, ends_rise}

-- What is written after a prefix depends on the length of the prefix alone.

abbrev Adds : (List ℕ → List ℕ) → Type 0
Adds F = (a b : List ℕ) → length a ≡ length b → (t : List ℕ) × (F a ≡ a ++ t) × (F b ≡ b ++ t)

adds_then : (F G : List ℕ → List ℕ) → Adds F → Adds G → Adds (λ x. G (F x))
adds_then F G first second a b e =
    let f = first a b e in
    let long : length (F a) ≡ length (F b) = ap length f.1 ∙ (length-append a f.0 ∙ (ap (λ n. n + length f.0) e ∙ (sym (length-append b f.0) ∙ sym (ap length f.2)))) in
    let g = second (F a) (F b) long in (
      f.0 ++ g.0,
      g.1 ∙ (ap (λ x. x ++ g.0) f.1 ∙ append_assoc a f.0 g.0),
      g.2 ∙ (ap (λ x. x ++ g.0) f.2 ∙ append_assoc b f.0 g.0),
    )

adds_bytes : (t : List ℕ) → Adds (λ x. x ++ t)
adds_bytes t a b e = (t, refl, refl)

adds_padded : (at : ℕ) → Adds (padded_to at)
unfolding padded_to
adds_padded at a b e = (replicate (at - length a) 0, refl, ap (λ n. b ++ replicate (at - n) 0) (sym e))

adds_names : (names : List (List ℕ)) → Adds (with_names names)
unfolding with_names
adds_names [] a b e = ([], sym (append-nil a), sym (append-nil b))
adds_names (name ∷ names) a b e =
    adds_then (λ x. x ++ name ++ 0 ∷ []) (with_names names)
    (adds_then (λ x. x ++ name) (λ x. x ++ 0 ∷ []) (adds_bytes name) (adds_bytes (0 ∷ [])))
    (adds_names names) a b e

adds_symbols : (place : ℕ) (rows : List Row) → Adds (with_symbols place rows)
unfolding with_symbols
adds_symbols place [] a b e = ([], sym (append-nil a), sym (append-nil b))
adds_symbols place (row ∷ rows) a b e =
    let bytes : List ℕ = fields_bytes (symbol_fields (symbol_of place row)) in
    let next : ℕ = place + (length row.name + 1) in
    adds_then (λ x. x ++ bytes) (with_symbols next rows) (adds_bytes bytes) (adds_symbols next rows) a b e

adds_placed : (p : Parts) (place : ℕ) (ks : List Kind) → Adds (with_placed_headers p place ks)
unfolding with_placed_headers
adds_placed p place [] a b e = ([], sym (append-nil a), sym (append-nil b))
adds_placed p place (k ∷ ks) a b e =
    let bytes : List ℕ = fields_bytes (section_header_fields (placed_header p place k)) in
    let next : ℕ = place + (length k.name + 1) in
    adds_then (λ x. x ++ bytes) (with_placed_headers p next ks) (adds_bytes bytes) (adds_placed p next ks) a b e

adds_string_table : (names : List (List ℕ)) → Adds (with_string_table names)
adds_string_table names = adds_then (λ x. x ++ 0 ∷ []) (with_names names) (adds_bytes (0 ∷ [])) (adds_names names)

adds_tables : (p : Parts) → Adds (with_tables p)
adds_tables p =
    let null_bytes : List ℕ = fields_bytes (symbol_fields null_symbol) in
    let symbols : Adds (with_symbol_table p.rows) =
    adds_then (λ x. x ++ null_bytes) (with_symbols 1 p.rows) (adds_bytes null_bytes) (adds_symbols 1 p.rows) in
    adds_then (λ x. with_string_table (row_names p.rows) (with_symbol_table p.rows x)) (with_string_table section_names)
    (adds_then (with_symbol_table p.rows) (with_string_table (row_names p.rows)) symbols (adds_string_table (row_names p.rows)))
    (adds_string_table section_names)

adds_headers : (p : Parts) → Adds (with_section_headers p)
adds_headers p =
    let null_bytes : List ℕ = fields_bytes (section_header_fields null_header) in
    let a : List ℕ = fields_bytes (section_header_fields (symtab_header p)) in
    let b : List ℕ = fields_bytes (section_header_fields (strings_header (strtab_at p) (strtab_size p) strtab_kind)) in
    let c : List ℕ = fields_bytes (section_header_fields (strings_header (shstrtab_at p) shstrtab_size shstrtab_kind)) in
    let placed : Adds (λ x. with_placed_headers p 1 placed_kinds (x ++ null_bytes)) =
    adds_then (λ x. x ++ null_bytes) (with_placed_headers p 1 placed_kinds) (adds_bytes null_bytes) (adds_placed p 1 placed_kinds) in
    adds_then (λ x. with_placed_headers p 1 placed_kinds (x ++ null_bytes) ++ a ++ b) (λ x. x ++ c)
    (adds_then (λ x. with_placed_headers p 1 placed_kinds (x ++ null_bytes) ++ a) (λ x. x ++ b)
    (adds_then (λ x. with_placed_headers p 1 placed_kinds (x ++ null_bytes)) (λ x. x ++ a) placed (adds_bytes a)) (adds_bytes b))
    (adds_bytes c)

-- Two files of one length that are the same at some offsets.

pub record Alike (At : ℕ → Type 0) (xs ys : List ℕ) : Type 0 where
  pub size : length xs ≡ length ys
  pub same : (i : ℕ) → At i → get_or xs i 0 ≡ get_or ys i 0

alike_itself : (At : ℕ → Type 0) (xs : List ℕ) → Alike At xs xs
alike_itself At xs = record { size = refl; same = λ i h. refl }

-- after them is the same, or what is looked at nowhere
alike_after : (At : ℕ → Type 0) (xs ys s t : List ℕ) → Alike At xs ys → length s ≡ length t
    → ((d : ℕ) → At (length xs + d) → d < length s → get_or s d 0 ≡ get_or t d 0) → Alike At (xs ++ s) (ys ++ t)
alike_after At xs ys s t alike long same = record {
  size = let e = alike.size in omega (arith, length-append xs s, length-append ys t);
  same = λ i here.
      dite (dec_lt i (length xs))
      (λ lt.
      get_or_append_left xs s 0 i lt
      ∙ (alike.same i here ∙ sym (get_or_append_left ys t 0 i (let e = alike.size in omega arith))))
      (λ ge.
      let le : length xs ≤ i = omega arith in
      let d : ℕ = i - length xs in
      let e : length xs + d ≡ i = omega arith in
      let rest : get_or s d 0 ≡ get_or t d 0 =
      dite (dec_lt d (length s))
      (λ in'. same d (subst At (sym e) here) in')
      (λ out. get_or_past s d 0 (omega arith) ∙ sym (get_or_past t d 0 (omega arith))) in
      get_or-append_right xs s (length xs) i 0 refl le ∙ (rest ∙ sym (get_or-append_right ys t (length xs) i 0 (sym alike.size) le)));
}

alike_adds : (At : ℕ → Type 0) (F : List ℕ → List ℕ) (xs ys : List ℕ) → Adds F → Alike At xs ys → Alike At (F xs) (F ys)
alike_adds At F xs ys adds alike =
    let f = adds xs ys alike.size in
    let P : List ℕ → Type 0 = λ l. Alike At l (F ys) in
    let Q : List ℕ → Type 0 = λ l. Alike At (xs ++ f.0) l in
    subst P (sym f.1) (subst Q (sym f.2) (alike_after At xs ys f.0 f.0 alike refl (λ d h lt. refl)))

-- The frame of an image: all but the bytes of its sections.

pub record SameFrame (p q : Parts) : Type 0 where
  pub prefix : leading_headers q ≡ leading_headers p
  pub symtab : symtab_at q ≡ symtab_at p
  pub headers_at : headers_at q ≡ headers_at p
  pub headers : (x : List ℕ) → with_section_headers q x ≡ with_section_headers p x
  pub sizes : sizes_of q ≡ sizes_of p
  pub addrs : addrs_of q ≡ addrs_of p

frame_of_eleven : (entry : ℕ) (rows : List Row) (b : List ℕ) (s1 s2 s3 s4 s5 s6 s7 s8 s9 s10 s11 : Section)
    → let p : Parts = record { entry = entry; sections = s1 ∷ s2 ∷ s3 ∷ s4 ∷ s5 ∷ s6 ∷ s7 ∷ s8 ∷ s9 ∷ s10 ∷ s11 ∷ []; rows = rows } in
    SameFrame p (parts_from b p)
unfolding with_placed_headers
frame_of_eleven entry rows b s1 s2 s3 s4 s5 s6 s7 s8 s9 s10 s11 =
    record { prefix = refl; symtab = refl; headers_at = refl; headers = λ x. refl; sizes = refl; addrs = refl }

same_frame : (p : Parts) (b : List ℕ) → length p.sections ≡ 11 → SameFrame p (parts_from b p)
unfolding elements
same_frame p b long =
    let d : ℕ → Section = λ i. get_or p.sections i no_section in
    let are : p.sections ≡ elements p.sections 0 11 = elements_are p.sections 0 11 long in
    let P : List Section → Type 0 =
    λ ss. let q : Parts = record { entry = p.entry; sections = ss; rows = p.rows } in SameFrame q (parts_from b q) in
    subst P (sym are) (frame_of_eleven p.entry p.rows b (d 0) (d 1) (d 2) (d 3) (d 4) (d 5) (d 6) (d 7) (d 8) (d 9) (d 10))

-- Sections whose bytes come from a file.

slice-length : (b : List ℕ) (at n : ℕ) → at + n ≤ length b → length (slice_range b at (at + n)) ≡ n
slice-length b at n room =
    let e : at + n - at ≡ n = omega arith in
    rw e (length-take-le n (drop at b) (let d = length-drop at b in omega arith))

pub slice-at : (b : List ℕ) (at n d : ℕ) → d < n → get_or (slice_range b at (at + n)) d 0 ≡ get_or b (at + d) 0
slice-at b at n d low =
    let e : at + n - at ≡ n = omega arith in
    rw e (get_or-take n (drop at b) d 0 low ∙ get_or-drop at b d 0)

-- those in the file have new bytes, and the others stay
written_from : (b : List ℕ) (p : Parts) (i : ℕ) → length p.sections ≡ 11 → i < 8 → section_at (parts_from b p) i ≡ section_from b (section_at p i)
written_from b p i long low =
    let eight : length (take 8 p.sections) ≡ 8 = length-take-le 8 p.sections (omega arith) in
    let here : i < length (take 8 p.sections) = omega arith in
    get_or_append_left (map (section_from b) (take 8 p.sections)) (drop 8 p.sections) no_section i (rw (length-map (take 8 p.sections) (section_from b)) here)
    ∙ (get_or-map (section_from b) (take 8 p.sections) i no_section no_section here
    ∙ ap (section_from b) (get_or-take 8 p.sections i no_section low))

unwritten_stay : (b : List ℕ) (p : Parts) (i : ℕ) → length p.sections ≡ 11 → 8 ≤ i → section_at (parts_from b p) i ≡ section_at p i
unwritten_stay b p i long high =
    let eight : length (take 8 p.sections) ≡ 8 = length-take-le 8 p.sections (omega arith) in
    let e : 8 + (i - 8) ≡ i = omega arith in
    get_or-append_right (map (section_from b) (take 8 p.sections)) (drop 8 p.sections) 8 i no_section (length-map (take 8 p.sections) (section_from b) ∙ eight) high
    ∙ (get_or-drop 8 p.sections (i - 8) no_section ∙ ap (section_at p) e)

-- where the sections in the file end, the file goes on
pub sections_end : (p : Parts) → IsPlaced p → (i : ℕ) → i < 8 → file_offset (section_at p i) + (section_at p i).size ≤ image_size p
sections_end p placed i low =
    let above : text_start ≤ (section p (i + 1)).addr = addr_above p placed (i + 1) (omega arith) (omega arith) in
    let e : i + 1 - 1 ≡ i = omega arith in
    let P : ℕ → Type 0 = λ k. text_start ≤ (section_at p k).addr in
    let above' : text_start ≤ (section_at p i).addr = subst P e above in
    let Q : ℕ → Type 0 = λ k. end_of (section_at p k) ≤ end_of (section p written_data) in
    let order : end_of (section_at p i) ≤ end_of (section p written_data) = subst Q e (ends_rise p placed (i + 1) written_data (omega arith) (omega arith) (omega arith)) in
    omega (arith, above', order)

placed_from : (b : List ℕ) (p : Parts) → IsPlaced p → length b ≡ image_size p → length p.sections ≡ 11 → SameFrame p (parts_from b p) → IsPlaced (parts_from b p)
placed_from b p placed size long frame =
    let Sizes : List ℕ → Type 0 = λ l. ArePlaced l (addrs_of (parts_from b p)) in
    let Addrs : List ℕ → Type 0 = λ l. ArePlaced (sizes_of p) l in
    record {
      places = subst Sizes (sym frame.sizes) (subst Addrs (sym frame.addrs) placed.places);
      limit = rw (unwritten_stay b p 9 long (omega arith)) placed.limit;
      backed = λ n low high.
          let here : n - 1 < 8 = omega arith in
          let s : Section = section p n in
          let room : file_offset s + s.size ≤ image_size p = sections_end p placed (n - 1) here in
          rw (written_from b p (n - 1) long here) (slice-length b (file_offset s) s.size (omega arith));
      kinds = placed.kinds;
      few = placed.few;
      names = placed.names;
    }

-- the sections of two images, up to a number, where their parts differ in the bytes of sections alone
module _ (p q : Parts) (placed : IsPlaced p) (placed' : IsPlaced q) (addrs : (i : ℕ) → (section_at q i).addr ≡ (section_at p i).addr) (sizes : (i : ℕ) → (section_at q i).size ≡ (section_at p i).size) (prefix : List ℕ) (room : length prefix ≤ text_start - image_base) where
  sections_alike : (i : ℕ) → i ≤ 8 → Alike (IsOutsideSections p) (with_sections prefix (take i p.sections)) (with_sections prefix (take i q.sections))
  sections_alike zero low = rw (with_nothing prefix) (alike_itself (IsOutsideSections p) prefix)
  sections_alike (suc i) low =
      let At : ℕ → Type 0 = IsOutsideSections p in
      let long : length p.sections ≡ 11 = simp length-map at placed.places.eleven in
      let long' : length q.sections ≡ 11 = simp length-map at placed'.places.eleven in
      let before : List ℕ = with_sections prefix (take i p.sections) in
      let before' : List ℕ = with_sections prefix (take i q.sections) in
      let at : ℕ = file_offset (section_at p i) in
      let step : with_sections prefix (take (i + 1) p.sections) ≡ padded_to at before ++ (section_at p i).bytes =
      ap (with_sections prefix) (take_more p.sections i no_section (omega arith)) ∙ with_more prefix (take i p.sections) (section_at p i) in
      let step' : with_sections prefix (take (i + 1) q.sections) ≡ padded_to (file_offset (section_at q i)) before' ++ (section_at q i).bytes =
      ap (with_sections prefix) (take_more q.sections i no_section (omega arith)) ∙ with_more prefix (take i q.sections) (section_at q i) in
      let same_at : file_offset (section_at q i) ≡ at = ap (λ n. n - image_base) (addrs i) in
      let start : length (padded_to at before) ≡ at = padded_length at before (room_before p placed prefix room i (omega arith)) in
      let rest : Alike At before before' = sections_alike i (omega arith) in
      let place : i + 1 - 1 ≡ i = omega arith in
      let Backed : (r : Parts) → ℕ → Type 0 = λ r k. length (section_at r k).bytes ≡ (section_at r k).size in
      let full : length (section_at p i).bytes ≡ (section_at p i).size = subst (Backed p) place (placed.backed (i + 1) (omega arith) (omega arith)) in
      let full' : length (section_at q i).bytes ≡ (section_at q i).size = subst (Backed q) place (placed'.backed (i + 1) (omega arith) (omega arith)) in
      let apart : (d : ℕ) → At (length (padded_to at before) + d) → d < length (section_at p i).bytes → get_or (section_at p i).bytes d 0 ≡ get_or (section_at q i).bytes d 0 =
      λ d out lt.
      let Here : ℕ → Type 0 = λ k. (length (padded_to at before) + d < file_offset (section_at p k)) ⊎ (file_offset (section_at p k) + (section_at p k).size ≤ length (padded_to at before) + d) in
      ⊎_elim
      (λ (below : length (padded_to at before) + d < at). absurd (omega arith))
      (λ (behind : at + (section_at p i).size ≤ length (padded_to at before) + d). absurd (omega arith))
      (subst Here place (out (i + 1) (omega arith) (omega arith))) in
      let padded : Alike At (padded_to at before) (padded_to at before') = alike_adds At (padded_to at) before before' (adds_padded at) rest in
      let all : Alike At (padded_to at before ++ (section_at p i).bytes) (padded_to at before' ++ (section_at q i).bytes) =
      alike_after At (padded_to at before) (padded_to at before') (section_at p i).bytes (section_at q i).bytes padded (full ∙ (sym (sizes i) ∙ sym full')) apart in
      let P : List ℕ → Type 0 = λ l. Alike At l (with_sections prefix (take (i + 1) q.sections)) in
      let Q : List ℕ → Type 0 = λ l. Alike At (padded_to at before ++ (section_at p i).bytes) l in
      let R : ℕ → Type 0 = λ n. Alike At (padded_to at before ++ (section_at p i).bytes) (padded_to n before' ++ (section_at q i).bytes) in
      let S : ℕ → Type 0 = λ n. Alike At (with_sections prefix (take n p.sections)) (with_sections prefix (take n q.sections)) in
      let e : i + 1 ≡ suc i = omega arith in
      subst S e (subst P (sym step) (subst Q (sym step') (subst R (sym same_at) all)))

-- an offset is in no section, or in one
abbrev Holder : Parts → ℕ → ℕ → Type 0
Holder p i k = (n : ℕ) × (text ≤ n) × (n ≤ k) × (file_offset (section p n) ≤ i) × (i < file_offset (section p n) + (section p n).size)

abbrev IsOutsideUpTo : Parts → ℕ → ℕ → Type 0
IsOutsideUpTo p i k = (n : ℕ) → text ≤ n → n ≤ k → (i < file_offset (section p n)) ⊎ (file_offset (section p n) + (section p n).size ≤ i)

one_more : (p : Parts) (i k : ℕ) → IsOutsideUpTo p i k → ((i < file_offset (section p (k + 1))) ⊎ (file_offset (section p (k + 1)) + (section p (k + 1)).size ≤ i)) → IsOutsideUpTo p i (suc k)
one_more p i k before last n low high =
    dite (dec_lt n (k + 1))
    (λ lt. before n low (omega arith))
    (λ ge.
    let e : k + 1 ≡ n = omega arith in
    let P : ℕ → Type 0 = λ m. (i < file_offset (section p m)) ⊎ (file_offset (section p m) + (section p m).size ≤ i) in
    subst P e last)

holder : (p : Parts) (i k : ℕ) → IsOutsideUpTo p i k ⊎ Holder p i k
holder p i zero = inl (λ n low high. absurd (omega arith))
holder p i (suc k) =
    ⊎_elim
    (λ (before : IsOutsideUpTo p i k).
    dite (dec_lt i (file_offset (section p (k + 1))))
    (λ below. inl (one_more p i k before (inl below)))
    (λ above.
    dite (dec_lt i (file_offset (section p (k + 1)) + (section p (k + 1)).size))
    (λ within. inr (k + 1, omega arith, omega arith, omega arith, within))
    (λ behind. inl (one_more p i k before (inr (omega arith))))))
    (λ (h : Holder p i k). inr (h.0, h.1, omega (arith, h.2), h.3, h.4))
    (holder p i k)

-- what is written after the sections
abbrev behind : Parts → List ℕ → List ℕ
behind p x = with_section_headers p (padded_to (headers_at p) (with_tables p (padded_to (symtab_at p) x)))

adds_after : (p : Parts) → Adds (behind p)
adds_after p =
    adds_then (λ x. padded_to (headers_at p) (with_tables p (padded_to (symtab_at p) x))) (with_section_headers p)
    (adds_then (λ x. with_tables p (padded_to (symtab_at p) x)) (padded_to (headers_at p))
    (adds_then (padded_to (symtab_at p)) (with_tables p) (adds_padded (symtab_at p)) (adds_tables p))
    (adds_padded (headers_at p)))
    (adds_headers p)

-- the same frame writes the same after the sections
after_same : (p : Parts) (b : List ℕ) → SameFrame p (parts_from b p) → (x : List ℕ) → behind (parts_from b p) x ≡ behind p x
after_same p b frame x =
    let q : Parts = parts_from b p in
    frame.headers (padded_to (headers_at q) (with_tables p (padded_to (symtab_at q) x)))
    ∙ ap (λ n. with_section_headers p (padded_to n (with_tables p (padded_to (symtab_at q) x)))) frame.headers_at
    ∙ ap (λ n. with_section_headers p (padded_to (headers_at p) (with_tables p (padded_to n x)))) frame.symtab

module _ (p : Parts) (b : List ℕ) (placed : IsPlaced p) (differs : DiffersInSections p b) where
  abbrev q : Parts
  q = parts_from b p

  long : length p.sections ≡ 11
  long = simp length-map at placed.places.eleven

  frame : SameFrame p q
  frame = same_frame p b long

  size : length b ≡ image_size p
  size = differs.size ∙ image_length p placed

  placed' : IsPlaced q
  placed' = placed_from b p placed size long frame

  same_addrs : (i : ℕ) → (section_at q i).addr ≡ (section_at p i).addr
  same_addrs i =
      dite (dec_lt i 8)
      (λ lt. ap (λ s. s.addr) (written_from b p i long lt))
      (λ ge. ap (λ s. s.addr) (unwritten_stay b p i long (omega arith)))

  same_sizes : (i : ℕ) → (section_at q i).size ≡ (section_at p i).size
  same_sizes i =
      dite (dec_lt i 8)
      (λ lt. ap (λ s. s.size) (written_from b p i long lt))
      (λ ge. ap (λ s. s.size) (unwritten_stay b p i long (omega arith)))

  images_alike : Alike (IsOutsideSections p) (elf_bytes p) (elf_bytes q)
  unfolding elf_bytes
  images_alike =
      let At : ℕ → Type 0 = IsOutsideSections p in
      let start : List ℕ = with_sections (leading_headers p) (take written_data p.sections) in
      let start' : List ℕ = with_sections (leading_headers p) (take written_data q.sections) in
      let sections : Alike At start start' = sections_alike p q placed placed' same_addrs same_sizes (leading_headers p) (omega (arith, leading_length p)) 8 (omega arith) in
      let whole : Alike At (behind p start) (behind p start') = alike_adds At (behind p) start start' (adds_after p) sections in
      let P : List ℕ → Type 0 = λ l. Alike At (behind p start) l in
      let e : behind q (with_sections (leading_headers q) (take written_data q.sections)) ≡ behind p start' =
      after_same p b frame (with_sections (leading_headers q) (take written_data q.sections)) ∙ ap (λ f. behind p (with_sections f (take written_data q.sections))) frame.prefix in
      subst P (sym e) whole

  within : (i : ℕ) → Holder p i 8 → get_or b i 0 ≡ get_or (elf_bytes q) i 0
  within i h =
      let n : ℕ = h.0 in
      let low = h.1 in
      let high = h.2 in
      let from = h.3 in
      let to = h.4 in
      let here : n - 1 < 8 = omega arith in
      let s : Section = section p n in
      let at : ℕ = file_offset s in
      let d : ℕ = i - at in
      let place : at + d ≡ i = omega arith in
      let inside : d < s.size = omega arith in
      let room : at + s.size ≤ image_size p = sections_end p placed (n - 1) here in
      let full : length (bytes_at b s) ≡ s.size = slice-length b at s.size (omega (arith, size)) in
      let P : Section → Type 0 = λ t. IsAt (elf_bytes q) (file_offset t) t.bytes in
      let there : IsAt (elf_bytes q) at (bytes_at b s) = subst P (written_from b p (n - 1) long here) ((image_at q placed').sections (n - 1) here) in
      let e : get_or (elf_bytes q) (at + d) 0 ≡ get_or b (at + d) 0 =
      byte_of_part (elf_bytes q) at d (bytes_at b s) there
      ∙ (get_or_append_left (bytes_at b s) there.rest 0 d (omega arith) ∙ slice-at b at s.size d inside) in
      let Q : ℕ → Type 0 = λ j. get_or b j 0 ≡ get_or (elf_bytes q) j 0 in
      subst Q place (sym e)

  is_image : IsImageOfChanged p b
  is_image = record {
    image = ext_get_or 0 b (elf_bytes q) (differs.size ∙ images_alike.size)
        (λ i lt.
        ⊎_elim
        (λ (out : IsOutsideUpTo p i 8). differs.same i out ∙ images_alike.same i out)
        (λ (h : Holder p i 8). within i h)
        (holder p i 8));
    placed = placed';
    sections = λ n low high. written_from b p (n - 1) long (omega arith);
    fits = λ fields. record { thread_storage = rw (unwritten_stay b p 10 long (omega arith)) fields.thread_storage; rows = fields.rows };
  }

pub sections_patched : SectionsPatched
sections_patched p b placed differs = is_image p b placed differs

pub sections_in_file : SectionsInFile
sections_in_file p n placed low high =
    let here : n - 1 < 8 = omega arith in
    let s : Section = section p n in
    let P : ℕ → Type 0 = λ k. slice_range (elf_bytes p) (file_offset s) (file_offset s + k) ≡ s.bytes in
    subst P (placed.backed n low high) (range_of_part (elf_bytes p) (file_offset s) s.bytes ((image_at p placed).sections (n - 1) here))

-- Parts of sections in memory.

-- a part of a part
slice-slice : (b : List ℕ) (start size at len : ℕ) → at + len ≤ size → start + size ≤ length b
    → slice_range b (start + at) (start + at + len) ≡ slice_range (slice_range b start (start + size)) at (at + len)
slice-slice b start size at len fits room =
    let whole : length (slice_range b start (start + size)) ≡ size = slice-length b start size room in
    let left : length (slice_range b (start + at) (start + at + len)) ≡ len = slice-length b (start + at) len (omega arith) in
    let right : length (slice_range (slice_range b start (start + size)) at (at + len)) ≡ len = slice-length (slice_range b start (start + size)) at len (omega arith) in
    ext_get_or 0 (slice_range b (start + at) (start + at + len)) (slice_range (slice_range b start (start + size)) at (at + len)) (left ∙ sym right)
    (λ i lt.
    let here : i < len = omega arith in
    let e : start + at + i ≡ start + (at + i) = omega arith in
    slice-at b (start + at) len i here
    ∙ (ap (λ n. get_or b n 0) e
    ∙ (sym (slice-at b start size (at + i) (omega arith)) ∙ sym (slice-at (slice_range b start (start + size)) at len i here))))

pub memory_within : MemoryWithin
memory_within p n at len placed fits low high room =
    let b : List ℕ = elf_bytes p in
    let s : Section = section p n in
    let start : ℕ = file_offset s in
    let image : ImageAt p b = image_at p placed in
    let back : HeadersBack p b = headers_back p placed fits b image in
    let above : text_start ≤ s.addr = addr_above p placed n low (omega arith) in
    let place : s.addr + at - image_base ≡ start + at = omega arith in
    let ends : start + s.size ≤ image_size p = sections_end p placed (n - 1) (omega arith) in
    let here : loaded b (s.addr + at) len ≡ Some (slice_range b (s.addr + at - image_base) (s.addr + at - image_base + len)) =
    part_loaded p placed b back.header.e_phnum (segments_back p placed fits b image back) n at len low high room in
    here
    ∙ ap (λ (k : ℕ). Some (slice_range b k (k + len))) place
    ∙ ap (λ (xs : List ℕ). Some xs) (slice-slice b start s.size at len room (omega (arith, image_length p placed)))
    ∙ ap (λ (xs : List ℕ). Some (slice_range xs at (at + len))) (sections_in_file p n placed low high)
