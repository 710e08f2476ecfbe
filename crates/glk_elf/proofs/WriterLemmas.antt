-- Steps of what writes an image.
use Rattle.std.proofs.Common.{◌≡◌, ℕ, ◌+◌, ◌-◌, ◌≤◌, ◌∙◌, refl, ap, arith, List, [], ◌∷◌, ◌++◌, map, take, drop, length, get_or}
use Rattle.std.proofs.lemmas.List.{append_assoc, take_all, map-append}
use Rattle.glk_elf.specs.declared.sections.Section.{Section}
use Rattle.glk_elf.specs.declared.frame.SymbolRow.{SymbolRow}
use Rattle.glk_elf.specs.declared.parts.SymRow.{SymRow}
use Rattle.glk_elf.specs.Gabi.{section_header_bytes}
use Rattle.glk_elf.specs.Sections.{written_data}
use Rattle.glk_elf.specs.Image.{Parts, Row, names_length, placed_header, with_placed_headers, with_section_headers, with_program_headers, with_sections, with_tables, padded_to, symtab_at, headers_at, elf_bytes}
use Rattle.glk_elf.specs.Frames.{Frame, frame_with, blank}
use Rattle.glk_elf.specs.Views.{kind_of, row_view, symbol_row}
use Rattle.glk_elf.specs.Written.{with_elf_header}

-- all but the first of a list
pub rest_is : {X : Type 0} (x : X) (xs : List X) → take (length (x ∷ xs) - 1) (drop 1 (x ∷ xs)) ≡ xs
rest_is x xs = take_all (length (x ∷ xs) - 1) xs (omega arith)

-- the names of one more section
pub names_more : (rest : List Section) (d : Section) (at n : ℕ) → 1 ≤ length rest → n ≡ length (kind_of (get_or rest 0 d)).name
    → at + (n + 1) + names_length (map (λ s. (kind_of s).name) (take (length rest - 1) (drop 1 rest)))
    ≡ at + names_length (map (λ s. (kind_of s).name) rest)
names_more [] d at n some is = absurd (omega (arith, some))
names_more (x ∷ xs) d at n some is =
    let e : names_length (map (λ s. (kind_of s).name) (take (length (x ∷ xs) - 1) (drop 1 (x ∷ xs)))) ≡ names_length (map (λ s. (kind_of s).name) xs) =
    ap (λ (l : List Section). names_length (map (λ s. (kind_of s).name) l)) (rest_is x xs) in
    omega (arith, e, is)

-- the header of one more section
pub header_more : (p : Parts) (rest : List Section) (d : Section) (at n : ℕ) (old new : List ℕ) → 1 ≤ length rest
    → n ≡ length (kind_of (get_or rest 0 d)).name
    → new ≡ old ++ section_header_bytes (placed_header p at (kind_of (get_or rest 0 d)))
    → with_placed_headers p (at + (n + 1)) (map kind_of (take (length rest - 1) (drop 1 rest))) new
    ≡ with_placed_headers p at (map kind_of rest) old
unfolding with_placed_headers
header_more p [] d at n old new some n_is new_is = absurd (omega (arith, some))
header_more p (x ∷ xs) d at n old new some n_is new_is =
    ap (λ (l : List Section). with_placed_headers p (at + (n + 1)) (map kind_of l) new) (rest_is x xs)
    ∙ (ap (λ m. with_placed_headers p (at + (m + 1)) (map kind_of xs) new) n_is
    ∙ ap (with_placed_headers p (at + (length (kind_of x).name + 1)) (map kind_of xs)) new_is)

-- one more row is borrowed
pub borrowed_more : (done new : List SymbolRow) (r : SymbolRow) (rest : List SymRow) (row : SymRow) (all : List Row) → 1 ≤ length rest
    → row ≡ get_or rest 0 row → symbol_row r ≡ row_view row → new ≡ done ++ r ∷ []
    → map symbol_row done ++ map row_view rest ≡ all
    → map symbol_row new ++ map row_view (take (length rest - 1) (drop 1 rest)) ≡ all
borrowed_more done new r [] row all some is same new_is before = absurd (omega (arith, some))
borrowed_more done new r (x ∷ xs) row all some is same new_is before =
    let tail : map row_view (take (length (x ∷ xs) - 1) (drop 1 (x ∷ xs))) ≡ map row_view xs = ap (map row_view) (rest_is x xs) in
    let first : symbol_row r ≡ row_view x = same ∙ ap row_view is in
    ap (λ l. map symbol_row new ++ l) tail
    ∙ (ap (λ l. map symbol_row l ++ map row_view xs) new_is
    ∙ (ap (λ l. l ++ map row_view xs) (map-append symbol_row done (r ∷ []))
    ∙ (append_assoc (map symbol_row done) (symbol_row r ∷ []) (map row_view xs)
    ∙ (ap (λ y. map symbol_row done ++ y ∷ map row_view xs) first ∙ before))))

-- What stands before and after the sections is that of any bytes of the sections.

front_same : (f : Frame) (bytes : List (List ℕ)) (x : List ℕ) → with_program_headers (blank f) x ≡ with_program_headers (frame_with f bytes) x
front_same f bytes x = refl

tables_same : (f : Frame) (bytes : List (List ℕ)) (x : List ℕ) → with_tables (blank f) x ≡ with_tables (frame_with f bytes) x
tables_same f bytes x = refl

headers_same : (f : Frame) (bytes : List (List ℕ)) (x : List ℕ) → with_section_headers (blank f) x ≡ with_section_headers (frame_with f bytes) x
unfolding with_placed_headers
headers_same f bytes x = refl

-- the steps of writing an image with these bytes of the sections
pub stored_written : (f : Frame) (bytes : List (List ℕ)) (shoff symbols : ℕ) (o0 o1 o2 o3 o4 o5 o6 o7 : List ℕ)
    → shoff ≡ headers_at (blank f) → symbols ≡ symtab_at (blank f) → o0 ≡ []
    → o1 ≡ with_elf_header f.entry shoff o0 → o2 ≡ with_program_headers (blank f) o1
    → o3 ≡ with_sections o2 (take written_data (frame_with f bytes).sections) → o4 ≡ padded_to symbols o3
    → o5 ≡ with_tables (blank f) o4 → o6 ≡ padded_to shoff o5 → o7 ≡ with_section_headers (blank f) o6
    → o7 ≡ elf_bytes (frame_with f bytes)
unfolding elf_bytes
stored_written f bytes shoff symbols o0 o1 o2 o3 o4 o5 o6 o7 shoff_is symbols_is e0 e1 e2 e3 e4 e5 e6 e7 =
    let q : Parts = frame_with f bytes in
    let front : o2 ≡ with_program_headers q (with_elf_header f.entry (headers_at q) []) =
    e2 ∙ (front_same f bytes o1
    ∙ ap (with_program_headers q) (e1 ∙ (ap (with_elf_header f.entry shoff) e0 ∙ ap (λ n. with_elf_header f.entry n []) shoff_is))) in
    let body : o4 ≡ padded_to (symtab_at q) (with_sections (with_program_headers q (with_elf_header f.entry (headers_at q) [])) (take written_data q.sections)) =
    e4 ∙ (ap (λ n. padded_to n o3) symbols_is
    ∙ ap (padded_to (symtab_at q)) (e3 ∙ ap (λ x. with_sections x (take written_data q.sections)) front)) in
    let tables : o5 ≡ with_tables q (padded_to (symtab_at q) (with_sections (with_program_headers q (with_elf_header f.entry (headers_at q) [])) (take written_data q.sections))) =
    e5 ∙ (tables_same f bytes o4 ∙ ap (with_tables q) body) in
    e7 ∙ (headers_same f bytes o6
    ∙ ap (with_section_headers q) (e6 ∙ (ap (λ n. padded_to n o5) shoff_is ∙ ap (padded_to (headers_at q)) tables)))
