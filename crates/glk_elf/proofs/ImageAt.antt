-- The parts of an image, each at its offset.
use Rattle.std.proofs.Common.{◌≡◌, ◌+◌, ◌-◌, ◌*◌, ◌<◌, ◌≤◌, ◌∙◌, ℕ, zero, suc, List, [], ◌∷◌, ◌++◌, length, take, drop, get_or, arith, refl, sym, ap, subst, length-append}
use Rattle.std.proofs.lemmas.List.{append_assoc, append-nil, length-map, take-append-drop, take-take, take_more}
use Rattle.glk_base.specs.Fields.{fields_bytes}
use Rattle.glk_elf.specs.Gabi.{e_ident, PF_R, PF_W, elf_header_fields, program_header_fields, section_header_fields, symbol_fields}
use Rattle.glk_elf.specs.Sections.{text, written_data, rodata, gopclntab, go_module, noptrbss, placed_kinds, strtab_kind, shstrtab_kind, section_names}
use Rattle.glk_elf.specs.Image.{Parts, Row, Section, image_base, end_of, no_section, with_names, with_string_table, names_length, row_names, with_symbols, with_symbol_table, symbol_of, null_symbol, padded_to, with_sections, elf_header, text_segment, load_segment, tls_segment, stack_segment, leading_headers, placed_header, null_header, symtab_header, strings_header, with_placed_headers, with_section_headers, with_tables, symtab_at, strtab_at, strtab_size, shstrtab_at, shstrtab_size, headers_at, elf_bytes}
use Rattle.glk_elf.specs.Placing.{IsPlaced, text_start}
use Rattle.glk_base.specs.BytesAt.{IsAt}
use Rattle.glk_elf.proofs.RecordsBack.{BeginsWith, begins_itself, begins_shorter, part_is_at}
use Rattle.glk_base.proofs.BytesAt.{is_at_same}
use Rattle.glk_elf.proofs.ImageParts.{padded_prefix, names_prefix, symbols_prefix, headers_prefix, sections_prefix, kind_names, no_kind, header_is_at, symbol_is_at}
use Rattle.glk_elf.proofs.LengthLemmas.{elf_header_length, program_header_length, section_header_length, symbol_length, headers_add, names_add, symbols_add, padded_length, body_length, tables_length, leading_length, sections_length, with_more, with_nothing}
use Rattle.glk_elf.proofs.PlaceLemmas.{addr_above, next_start, section_at}

-- The section headers.
pub record HeadersAt (p : Parts) (b : List ℕ) : Type 0 where
  pub null : IsAt b (headers_at p) (fields_bytes (section_header_fields null_header))
  pub placed : (i : ℕ) → i < 11 → IsAt b (headers_at p + 64 * (i + 1)) (fields_bytes (section_header_fields (placed_header p (1 + names_length (kind_names (take i placed_kinds))) (get_or placed_kinds i no_kind))))
  pub symtab : IsAt b (headers_at p + 64 * 12) (fields_bytes (section_header_fields (symtab_header p)))
  pub strtab : IsAt b (headers_at p + 64 * 13) (fields_bytes (section_header_fields (strings_header (strtab_at p) (strtab_size p) strtab_kind)))
  pub shstrtab : IsAt b (headers_at p + 64 * 14) (fields_bytes (section_header_fields (strings_header (shstrtab_at p) shstrtab_size shstrtab_kind)))

-- four parts, one after the other
four : (b a x y z : List ℕ) (n : ℕ) → length a ≡ n → length x ≡ 64 → length y ≡ 64 → BeginsWith b (a ++ x ++ y ++ z)
    → IsAt b n x × IsAt b (n + 64) y × IsAt b (n + 128) z × BeginsWith b a
four b a x y z n ea ex ey begins =
    let three : BeginsWith b (a ++ x ++ y) = begins_shorter b (a ++ x ++ y) z begins in
    let two : BeginsWith b (a ++ x) = begins_shorter b (a ++ x) y three in
    let lx : length (a ++ x) ≡ length a + length x = length-append a x in
    let ly : length (a ++ x ++ y) ≡ length (a ++ x) + length y = length-append (a ++ x) y in (
      is_at_same b (length a) n x (part_is_at b a x two) ea,
      is_at_same b (length (a ++ x)) (n + 64) y (part_is_at b (a ++ x) y three) (omega arith),
      is_at_same b (length (a ++ x ++ y)) (n + 128) z (part_is_at b (a ++ x ++ y) z begins) (omega arith),
      begins_shorter b a x two,
    )

pub headers_are_at : (p : Parts) (b h : List ℕ) → length h ≡ headers_at p → BeginsWith b (with_section_headers p h) → HeadersAt p b × BeginsWith b h
headers_are_at p b h size begins =
    let null_bytes : List ℕ = fields_bytes (section_header_fields null_header) in
    let start : List ℕ = h ++ null_bytes in
    let placed : List ℕ = with_placed_headers p 1 placed_kinds start in
    let start_size : length start ≡ length h + length null_bytes = length-append h null_bytes in
    let null_size : length null_bytes ≡ 64 = section_header_length null_header in
    let placed_size : length placed ≡ length start + 64 * 11 = headers_add p 1 placed_kinds start in
    let parts = four b placed (fields_bytes (section_header_fields (symtab_header p)))
    (fields_bytes (section_header_fields (strings_header (strtab_at p) (strtab_size p) strtab_kind)))
    (fields_bytes (section_header_fields (strings_header (shstrtab_at p) shstrtab_size shstrtab_kind)))
    (headers_at p + 768) (omega arith)
    (section_header_length (symtab_header p)) (section_header_length (strings_header (strtab_at p) (strtab_size p) strtab_kind)) begins in
    let started : BeginsWith b start = headers_prefix b p 1 placed_kinds start parts.3 in (
      record {
        null = is_at_same b (length h) (headers_at p) null_bytes (part_is_at b h null_bytes started) size;
        placed = λ i low.
            is_at_same b (length start + 64 * i) (headers_at p + 64 * (i + 1)) (fields_bytes (section_header_fields (placed_header p (1 + names_length (kind_names (take i placed_kinds))) (get_or placed_kinds i no_kind)))) (header_is_at b p 1 placed_kinds start i low parts.3) (omega arith);
        symtab = is_at_same b (headers_at p + 768) (headers_at p + 64 * 12) (fields_bytes (section_header_fields (symtab_header p))) parts.0 (omega arith);
        strtab = is_at_same b (headers_at p + 768 + 64) (headers_at p + 64 * 13) (fields_bytes (section_header_fields (strings_header (strtab_at p) (strtab_size p) strtab_kind))) parts.1 (omega arith);
        shstrtab = is_at_same b (headers_at p + 768 + 128) (headers_at p + 64 * 14) (fields_bytes (section_header_fields (strings_header (shstrtab_at p) shstrtab_size shstrtab_kind))) parts.2 (omega arith);
      },
      begins_shorter b h null_bytes started,
    )

-- The tables.

-- names after a prefix are what they are alone
pub names_join : (names : List (List ℕ)) (prefix : List ℕ) → with_names names prefix ≡ prefix ++ with_names names []
unfolding with_names
names_join [] prefix = sym (append-nil prefix)
names_join (name ∷ names) prefix =
    let rest : List ℕ = with_names names [] in
    let e : with_names names (prefix ++ name ++ 0 ∷ []) ≡ (prefix ++ name ++ 0 ∷ []) ++ rest = names_join names (prefix ++ name ++ 0 ∷ []) in
    let f : with_names names (name ++ 0 ∷ []) ≡ (name ++ 0 ∷ []) ++ rest = names_join names (name ++ 0 ∷ []) in
    let g : (prefix ++ name ++ 0 ∷ []) ++ rest ≡ prefix ++ ((name ++ 0 ∷ []) ++ rest) = simp append_assoc in
    e ∙ g ∙ ap (λ xs. prefix ++ xs) (sym f)

-- a table of names
abbrev pub string_table : List (List ℕ) → List ℕ
string_table names = 0 ∷ with_names names []

pub table_is_at : (b : List ℕ) (names : List (List ℕ)) (prefix : List ℕ) → BeginsWith b (with_string_table names prefix) → IsAt b (length prefix) (string_table names)
table_is_at b names prefix begins =
    let e : with_string_table names prefix ≡ prefix ++ string_table names = names_join names (prefix ++ 0 ∷ []) ∙ append_assoc prefix (0 ∷ []) (with_names names []) in
    let P : List ℕ → Type 0 = λ xs. BeginsWith b xs in
    part_is_at b prefix (string_table names) (subst P e begins)

pub table_prefix : (b : List ℕ) (names : List (List ℕ)) (prefix : List ℕ) → BeginsWith b (with_string_table names prefix) → BeginsWith b prefix
table_prefix b names prefix begins = begins_shorter b prefix (0 ∷ []) (names_prefix b names (prefix ++ 0 ∷ []) begins)

-- symbols after a prefix are what they are alone
pub symbols_join : (place : ℕ) (rows : List Row) (prefix : List ℕ) → with_symbols place rows prefix ≡ prefix ++ with_symbols place rows []
unfolding with_symbols
symbols_join place [] prefix = sym (append-nil prefix)
symbols_join place (row ∷ rows) prefix =
    let bytes : List ℕ = fields_bytes (symbol_fields (symbol_of place row)) in
    let next : ℕ = place + (length row.name + 1) in
    let rest : List ℕ = with_symbols next rows [] in
    let e : with_symbols next rows (prefix ++ bytes) ≡ (prefix ++ bytes) ++ rest = symbols_join next rows (prefix ++ bytes) in
    let f : with_symbols next rows bytes ≡ bytes ++ rest = symbols_join next rows bytes in
    e ∙ append_assoc prefix bytes rest ∙ ap (λ xs. prefix ++ xs) (sym f)

symbol_table_join : (rows : List Row) (prefix : List ℕ) → with_symbol_table rows prefix ≡ prefix ++ with_symbol_table rows []
symbol_table_join rows prefix =
    let null_bytes : List ℕ = fields_bytes (symbol_fields null_symbol) in
    let rest : List ℕ = with_symbols 1 rows [] in
    let e : with_symbols 1 rows (prefix ++ null_bytes) ≡ (prefix ++ null_bytes) ++ rest = symbols_join 1 rows (prefix ++ null_bytes) in
    let f : with_symbols 1 rows null_bytes ≡ null_bytes ++ rest = symbols_join 1 rows null_bytes in
    e ∙ append_assoc prefix null_bytes rest ∙ ap (λ xs. prefix ++ xs) (sym f)

symbol_table_is_at : (b : List ℕ) (rows : List Row) (prefix : List ℕ) → BeginsWith b (with_symbol_table rows prefix) → IsAt b (length prefix) (with_symbol_table rows [])
symbol_table_is_at b rows prefix begins =
    let P : List ℕ → Type 0 = λ xs. BeginsWith b xs in
    part_is_at b prefix (with_symbol_table rows []) (subst P (symbol_table_join rows prefix) begins)

pub record TablesAt (p : Parts) (b : List ℕ) : Type 0 where
  pub symbols : IsAt b (symtab_at p) (with_symbol_table p.rows [])
  pub null : IsAt b (symtab_at p) (fields_bytes (symbol_fields null_symbol))
  pub rows : (i : ℕ) (d : Row) → i < length p.rows → IsAt b (symtab_at p + 24 * (i + 1)) (fields_bytes (symbol_fields (symbol_of (1 + names_length (row_names (take i p.rows))) (get_or p.rows i d))))
  pub strings : IsAt b (strtab_at p) (string_table (row_names p.rows))
  pub names : IsAt b (shstrtab_at p) (string_table section_names)

pub tables_are_at : (p : Parts) (b body : List ℕ) → length body ≡ symtab_at p → BeginsWith b (with_tables p body) → TablesAt p b × BeginsWith b body
tables_are_at p b body size begins =
    let null_bytes : List ℕ = fields_bytes (symbol_fields null_symbol) in
    let start : List ℕ = body ++ null_bytes in
    let symbols : List ℕ = with_symbols 1 p.rows start in
    let strings : List ℕ = with_string_table (row_names p.rows) symbols in
    let start_size : length start ≡ length body + length null_bytes = length-append body null_bytes in
    let null_size : length null_bytes ≡ 24 = symbol_length null_symbol in
    let symbols_size : length symbols ≡ length start + 24 * length p.rows = symbols_add 1 p.rows start in
    let strings_size : length strings ≡ length (symbols ++ 0 ∷ []) + names_length (row_names p.rows) = names_add (row_names p.rows) (symbols ++ 0 ∷ []) in
    let zero_size : length (symbols ++ 0 ∷ []) ≡ length symbols + 1 = length-append symbols (0 ∷ []) in
    let to_strings : BeginsWith b strings = table_prefix b section_names strings begins in
    let to_symbols : BeginsWith b symbols = table_prefix b (row_names p.rows) symbols to_strings in
    let to_start : BeginsWith b start = symbols_prefix b 1 p.rows start to_symbols in (
      record {
        symbols = is_at_same b (length body) (symtab_at p) (with_symbol_table p.rows []) (symbol_table_is_at b p.rows body to_symbols) size;
        null = is_at_same b (length body) (symtab_at p) null_bytes (part_is_at b body null_bytes to_start) size;
        rows = λ i d low.
            is_at_same b (length start + 24 * i) (symtab_at p + 24 * (i + 1)) (fields_bytes (symbol_fields (symbol_of (1 + names_length (row_names (take i p.rows))) (get_or p.rows i d)))) (symbol_is_at b 1 p.rows start i d low to_symbols) (omega arith);
        strings = is_at_same b (length symbols) (strtab_at p) (string_table (row_names p.rows)) (table_is_at b (row_names p.rows) symbols to_strings) (omega arith);
        names = is_at_same b (length strings) (shstrtab_at p) (string_table section_names) (table_is_at b section_names strings begins) (omega arith);
      },
      begins_shorter b body null_bytes to_start,
    )

-- The leading headers.
pub record LeadingAt (p : Parts) (b : List ℕ) : Type 0 where
  pub ident : BeginsWith b e_ident
  pub header : IsAt b 16 (fields_bytes (elf_header_fields (elf_header p.entry (headers_at p))))
  pub segment_0 : IsAt b 64 (fields_bytes (program_header_fields (text_segment p)))
  pub segment_1 : IsAt b 120 (fields_bytes (program_header_fields (load_segment p PF_R rodata gopclntab gopclntab)))
  pub segment_2 : IsAt b 176 (fields_bytes (program_header_fields (load_segment p (PF_R + PF_W) go_module written_data noptrbss)))
  pub segment_3 : IsAt b 232 (fields_bytes (program_header_fields (tls_segment p)))
  pub segment_4 : IsAt b 288 (fields_bytes (program_header_fields stack_segment))

-- six parts after a prefix
six : (b i h p0 p1 p2 p3 p4 : List ℕ) → length i ≡ 16 → length h ≡ 48 → length p0 ≡ 56 → length p1 ≡ 56 → length p2 ≡ 56 → length p3 ≡ 56
    → BeginsWith b (i ++ h ++ p0 ++ p1 ++ p2 ++ p3 ++ p4)
    → BeginsWith b i × IsAt b 16 h × IsAt b 64 p0 × IsAt b 120 p1 × IsAt b 176 p2 × IsAt b 232 p3 × IsAt b 288 p4
six b i h p0 p1 p2 p3 p4 ei eh e0 e1 e2 e3 begins =
    let b3 : BeginsWith b (i ++ h ++ p0 ++ p1 ++ p2 ++ p3) = begins_shorter b (i ++ h ++ p0 ++ p1 ++ p2 ++ p3) p4 begins in
    let b2 : BeginsWith b (i ++ h ++ p0 ++ p1 ++ p2) = begins_shorter b (i ++ h ++ p0 ++ p1 ++ p2) p3 b3 in
    let b1 : BeginsWith b (i ++ h ++ p0 ++ p1) = begins_shorter b (i ++ h ++ p0 ++ p1) p2 b2 in
    let b0 : BeginsWith b (i ++ h ++ p0) = begins_shorter b (i ++ h ++ p0) p1 b1 in
    let bh : BeginsWith b (i ++ h) = begins_shorter b (i ++ h) p0 b0 in
    let lh : length (i ++ h) ≡ length i + length h = length-append i h in
    let l0 : length (i ++ h ++ p0) ≡ length (i ++ h) + length p0 = length-append (i ++ h) p0 in
    let l1 : length (i ++ h ++ p0 ++ p1) ≡ length (i ++ h ++ p0) + length p1 = length-append (i ++ h ++ p0) p1 in
    let l2 : length (i ++ h ++ p0 ++ p1 ++ p2) ≡ length (i ++ h ++ p0 ++ p1) + length p2 = length-append (i ++ h ++ p0 ++ p1) p2 in
    let l3 : length (i ++ h ++ p0 ++ p1 ++ p2 ++ p3) ≡ length (i ++ h ++ p0 ++ p1 ++ p2) + length p3 = length-append (i ++ h ++ p0 ++ p1 ++ p2) p3 in (
      begins_shorter b i h bh,
      is_at_same b (length i) 16 h (part_is_at b i h bh) ei,
      is_at_same b (length (i ++ h)) 64 p0 (part_is_at b (i ++ h) p0 b0) (omega arith),
      is_at_same b (length (i ++ h ++ p0)) 120 p1 (part_is_at b (i ++ h ++ p0) p1 b1) (omega arith),
      is_at_same b (length (i ++ h ++ p0 ++ p1)) 176 p2 (part_is_at b (i ++ h ++ p0 ++ p1) p2 b2) (omega arith),
      is_at_same b (length (i ++ h ++ p0 ++ p1 ++ p2)) 232 p3 (part_is_at b (i ++ h ++ p0 ++ p1 ++ p2) p3 b3) (omega arith),
      is_at_same b (length (i ++ h ++ p0 ++ p1 ++ p2 ++ p3)) 288 p4 (part_is_at b (i ++ h ++ p0 ++ p1 ++ p2 ++ p3) p4 begins) (omega arith),
    )

ident_length : length e_ident ≡ 16
unfolding e_ident
ident_length = refl

pub leading_are_at : (p : Parts) (b : List ℕ) → BeginsWith b (leading_headers p) → LeadingAt p b
leading_are_at p b begins =
    let parts = six b e_ident (fields_bytes (elf_header_fields (elf_header p.entry (headers_at p))))
    (fields_bytes (program_header_fields (text_segment p)))
    (fields_bytes (program_header_fields (load_segment p PF_R rodata gopclntab gopclntab)))
    (fields_bytes (program_header_fields (load_segment p (PF_R + PF_W) go_module written_data noptrbss)))
    (fields_bytes (program_header_fields (tls_segment p)))
    (fields_bytes (program_header_fields stack_segment))
    ident_length (elf_header_length (elf_header p.entry (headers_at p))) (program_header_length (text_segment p))
    (program_header_length (load_segment p PF_R rodata gopclntab gopclntab))
    (program_header_length (load_segment p (PF_R + PF_W) go_module written_data noptrbss))
    (program_header_length (tls_segment p)) begins in
    record { ident = parts.0; header = parts.1; segment_0 = parts.2; segment_1 = parts.3; segment_2 = parts.4; segment_3 = parts.5; segment_4 = parts.6 }

-- The sections in the file.

with_appended : (prefix : List ℕ) (xs ys : List Section) → with_sections prefix (xs ++ ys) ≡ with_sections (with_sections prefix xs) ys
unfolding with_sections
with_appended prefix [] ys = refl
with_appended prefix (x ∷ xs) ys = with_appended (padded_to (x.addr - image_base) prefix ++ x.bytes) xs ys

-- what is before section i ends where it starts, or before
pub room_before : (p : Parts) → IsPlaced p → (prefix : List ℕ) → length prefix ≤ text_start - image_base → (i : ℕ) → i < written_data
    → length (with_sections prefix (take i p.sections)) ≤ (section_at p i).addr - image_base
room_before p placed prefix room zero low =
    let nothing : length (with_sections prefix (take 0 p.sections)) ≡ length prefix = ap length (with_nothing prefix) in
    let above : text_start ≤ (section_at p 0).addr = addr_above p placed text (omega arith) (omega arith) in
    omega (arith, nothing, above)
room_before p placed prefix room (suc i) low =
    let before : length (with_sections prefix (take (i + 1) p.sections)) ≡ end_of (section_at p i) - image_base = sections_length p placed prefix room i (omega arith) in
    let next : end_of (section_at p i) ≤ (section_at p (i + 1)).addr = next_start p placed i (i + 1) refl (omega arith) in
    let P : ℕ → Type 0 = λ n. length (with_sections prefix (take n p.sections)) ≤ (section_at p n).addr - image_base in
    let e : i + 1 ≡ suc i = omega arith in
    subst P e (omega arith)

section_is_at : (p : Parts) → IsPlaced p → (b prefix : List ℕ) → length prefix ≤ text_start - image_base → BeginsWith b (with_sections prefix (take written_data p.sections)) → (i : ℕ) → i < written_data
    → IsAt b ((section_at p i).addr - image_base) (section_at p i).bytes
section_is_at p placed b prefix room begins i low =
    let all : List Section = take written_data p.sections in
    let eight : length p.sections ≡ 11 = simp length-map at placed.places.eleven in
    let split : take (i + 1) all ++ drop (i + 1) all ≡ all = take-append-drop (i + 1) all in
    let shorter : take (i + 1) all ≡ take (i + 1) p.sections = take-take (i + 1) written_data p.sections (omega arith) in
    let P : List Section → Type 0 = λ ss. BeginsWith b (with_sections prefix ss) in
    let Q : List ℕ → Type 0 = λ xs. BeginsWith b xs in
    let parts : BeginsWith b (with_sections (with_sections prefix (take (i + 1) all)) (drop (i + 1) all)) = subst Q (with_appended prefix (take (i + 1) all) (drop (i + 1) all)) (subst P (sym split) begins) in
    let here : BeginsWith b (with_sections prefix (take (i + 1) p.sections)) = subst P shorter (sections_prefix b (with_sections prefix (take (i + 1) all)) (drop (i + 1) all) parts) in
    let before : List ℕ = with_sections prefix (take i p.sections) in
    let last : take (i + 1) p.sections ≡ take i p.sections ++ section_at p i ∷ [] = take_more p.sections i no_section (omega arith) in
    let joined : with_sections prefix (take i p.sections ++ section_at p i ∷ []) ≡ padded_to ((section_at p i).addr - image_base) before ++ (section_at p i).bytes = with_more prefix (take i p.sections) (section_at p i) in
    let start : List ℕ = padded_to ((section_at p i).addr - image_base) before in
    let size : length start ≡ (section_at p i).addr - image_base = padded_length ((section_at p i).addr - image_base) before (room_before p placed prefix room i low) in
    is_at_same b (length start) ((section_at p i).addr - image_base) (section_at p i).bytes (part_is_at b start (section_at p i).bytes (subst Q joined (subst P last here))) size

-- The whole.
pub record ImageAt (p : Parts) (b : List ℕ) : Type 0 where
  pub prefix : LeadingAt p b
  pub tables : TablesAt p b
  pub headers : HeadersAt p b
  pub sections : (i : ℕ) → i < written_data → IsAt b ((section_at p i).addr - image_base) (section_at p i).bytes

pub image_at : (p : Parts) → IsPlaced p → ImageAt p (elf_bytes p)
unfolding elf_bytes
image_at p placed =
    let start : List ℕ = with_sections (leading_headers p) (take written_data p.sections) in
    let body : List ℕ = padded_to (symtab_at p) start in
    let tables : List ℕ = with_tables p body in
    let above : List ℕ = padded_to (headers_at p) tables in
    let body_size : length body ≡ symtab_at p = body_length p placed in
    let tables_size : length tables ≡ shstrtab_at p + shstrtab_size = tables_length p body body_size in
    let above_size : length above ≡ headers_at p = padded_length (headers_at p) tables (omega arith) in
    let headers = headers_are_at p (elf_bytes p) above above_size (begins_itself (elf_bytes p)) in
    let to_tables : BeginsWith (elf_bytes p) tables = padded_prefix (elf_bytes p) (headers_at p) tables headers.1 in
    let rest = tables_are_at p (elf_bytes p) body body_size to_tables in
    let to_start : BeginsWith (elf_bytes p) start = padded_prefix (elf_bytes p) (symtab_at p) start rest.1 in
    let to_prefix : BeginsWith (elf_bytes p) (leading_headers p) = sections_prefix (elf_bytes p) (leading_headers p) (take written_data p.sections) to_start in
    record {
      prefix = leading_are_at p (elf_bytes p) to_prefix;
      tables = rest.0;
      headers = headers.0;
      sections = section_is_at p placed (elf_bytes p) (leading_headers p) (omega (arith, leading_length p)) to_start;
    }
