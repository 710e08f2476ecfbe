-- What the rules give to a reader of an ELF file.
use Rattle.std.proofs.Common.{◌≡◌, ◌+◌, ◌%◌, ◌<◌, ◌≤◌, ◌==◌, ◌∙◌, inl, inr, ℕ, Option, Some, None, List, length, arith, refl, sym, subst, ap}
use Rattle.std.specs.Prelude.{IsSomeAnd, MatchOption}
use Rattle.std.specs.Option.{option_map_or}
use Rattle.std.proofs.lemmas.Bool.{cases_lt, cases_eq, eqb-true, lt-ltb}
use Rattle.glk_elf.specs.Gabi.{SHT_STRTAB, SHT_SYMTAB, symbol_size}
use Rattle.glk_elf.specs.ReaderFile.{IsElf}
use Rattle.glk_elf.specs.ReaderFit.{IsTable, HasSymbols}
use Rattle.glk_elf.specs.ReaderHeaders.{file_header, e_shstrndx_offset, program_header_offset, section_header_at, section_header_offset, symbol_from, symbol_offset, symbol_row}
use Rattle.glk_elf.specs.ReaderLayout.{HasLayout}
use Rattle.glk_base.specs.Rules.{IsIntact}
use Rattle.glk_elf.specs.ReaderRules.{IsNoStringTable, IsLateSection, IsUnnamedSection, IsOddSymbolTable, IsUnnamedSymbol, IsBadSegment, Breaks}
use Rattle.glk_elf.specs.ReaderSections.{section_names_of, symbol_table, symbols, symbols_in, symbol_names, symbol_of_table, symbol_numbered}
use Rattle.glk_elf.specs.ReaderStrings.{EndsInside}
use Rattle.glk_elf.proofs.ReaderFirst.{IsFound, found}
use Rattle.glk_elf.proofs.ReaderIntact.{intact}
use Rattle.glk_elf.proofs.ReaderNames.{ends_from}

-- E7: the bytes of a section are inside the file.
pub not_late : (b : List ℕ) (n k : ℕ) → 7 ≤ n → IsIntact (Breaks b) n → k < (file_header b).e_shnum → IsLateSection b k → ⊥
not_late b n k seven intact inside late = intact.no 7 (section_header_offset b k) seven (record { index = k; inside = inside; at = refl; bad = late })

pub elf_not_late : (b : List ℕ) (k : ℕ) → IsElf b → k < (file_header b).e_shnum → IsLateSection b k → ⊥
elf_not_late b k elf inside late = elf.sections_inside (section_header_offset b k) (record { index = k; inside = inside; at = refl; bad = late })

-- a string table is a section
pub is_string_table : (b : List ℕ) (k : ℕ) → (IsNoStringTable b k → ⊥) → (k < (file_header b).e_shnum) × ((section_header_at b k).sh_type ≡ SHT_STRTAB)
unfolding IsNoStringTable
is_string_table b k fine = (
  elim (cases_lt k (file_header b).e_shnum) [ inl low ↦ low | inr high ↦ absurd (fine (inl high)) ],
  elim (cases_eq (section_header_at b k).sh_type SHT_STRTAB) [ inl same ↦ same | inr other ↦ absurd (fine (inr other)) ],
)

-- E6: the sections' names are a section.
pub names_table : (b : List ℕ) (n : ℕ) → 6 ≤ n → IsIntact (Breaks b) n → (file_header b).e_shstrndx < (file_header b).e_shnum
names_table b n six intact = (is_string_table b (file_header b).e_shstrndx (λ none. intact.no 6 e_shstrndx_offset six (none, refl))).0

-- E8: each section has a name.
pub section_named : (b : List ℕ) (k : ℕ) → IsElf b → k < (file_header b).e_shnum → IsUnnamedSection b k → ⊥
section_named b k elf inside unnamed = elf.sections_named (section_header_offset b k) (record { index = k; inside = inside; at = refl; bad = unnamed })

pub section_name_ends : (b : List ℕ) (k : ℕ) → (IsUnnamedSection b k → ⊥) → EndsInside (section_names_of b) (section_header_at b k).sh_name
unfolding IsUnnamedSection
section_name_ends b k fine = ends_from (section_names_of b) (section_header_at b k).sh_name fine

-- a fact of the symbol table
of_table : (b : List ℕ) (t : ℕ) (P : ℕ → Type 0) → symbol_table b ≡ Some t → P t → IsSomeAnd (symbol_table b) P
of_table b t P table holds = let Q : Option ℕ → Type 0 = λ o. IsSomeAnd o P in subst Q (sym table) holds

-- the symbol table is a section of its type
pub table_found : (b : List ℕ) (t : ℕ) → symbol_table b ≡ Some t → (t < (file_header b).e_shnum) × ((section_header_at b t).sh_type ≡ SHT_SYMTAB)
unfolding symbol_table
table_found b t table =
    let f : IsFound (λ k. (section_header_at b k).sh_type == SHT_SYMTAB) 0 (file_header b).e_shnum t = found (λ k. (section_header_at b k).sh_type == SHT_SYMTAB) 0 (file_header b).e_shnum t table in
    (omega (arith, f.to), eqb-true (section_header_at b t).sh_type SHT_SYMTAB f.passes)

-- E9: it has a whole number of rows, and a string table.
pub not_odd : (b : List ℕ) (n t : ℕ) → 9 ≤ n → IsIntact (Breaks b) n → symbol_table b ≡ Some t → IsOddSymbolTable b t → ⊥
not_odd b n t nine intact table odd = intact.no 9 (section_header_offset b t) nine (of_table b t _ table (odd, refl))

pub table_whole : (b : List ℕ) (t : ℕ) → (IsOddSymbolTable b t → ⊥) → (section_header_at b t).sh_size % symbol_size ≡ 0
unfolding IsOddSymbolTable
table_whole b t fine = elim (cases_eq ((section_header_at b t).sh_size % symbol_size) 0) [ inl whole ↦ whole | inr odd ↦ absurd (fine (inl odd)) ]

pub table_names : (b : List ℕ) (t : ℕ) → (IsOddSymbolTable b t → ⊥) → (section_header_at b t).sh_link < (file_header b).e_shnum
unfolding IsOddSymbolTable
table_names b t fine = (is_string_table b (section_header_at b t).sh_link (λ none. fine (inr none))).0

-- its rows are inside the file
pub table_room : (b : List ℕ) (t : ℕ) → HasLayout b → (IsLateSection b t → ⊥) → (section_header_at b t).sh_type ≡ SHT_SYMTAB → (section_header_at b t).sh_offset + (section_header_at b t).sh_size ≤ length b
unfolding IsLateSection
table_room b t layout fine kind = elim (cases_lt (length b) ((section_header_at b t).sh_offset + (section_header_at b t).sh_size)) [
  | inl late ↦ absurd (fine ((λ e. omega arith), (λ e. omega arith), late))
  | inr inside ↦ inside
]

-- E10: each symbol has a name.
pub symbol_named : (b : List ℕ) (t k : ℕ) → IsElf b → symbol_table b ≡ Some t → k < symbols_in b t → IsUnnamedSymbol b t k → ⊥
symbol_named b t k elf table inside unnamed =
    elf.symbols_named (symbol_offset b t (k + 1)) (of_table b t _ table (record { index = k; inside = inside; at = refl; bad = unnamed }))

-- E11: loaded memory is fine.
pub not_bad : (b : List ℕ) (k : ℕ) → IsElf b → k < (file_header b).e_phnum → IsBadSegment b k → ⊥
not_bad b k elf inside bad = elf.segments_inside (program_header_offset b k) (record { index = k; inside = inside; at = refl; bad = bad })

-- What the rules say of the symbol table that is section t.
pub record TableFacts (b : List ℕ) (t : ℕ) : Type 0 where
  pub inside : (section_header_at b t).sh_offset + (section_header_at b t).sh_size ≤ length b
  pub link : (section_header_at b t).sh_link < (file_header b).e_shnum

pub table_facts : (b : List ℕ) (n t : ℕ) → 9 ≤ n → HasLayout b → IsIntact (Breaks b) n → symbol_table b ≡ Some t → TableFacts b t
table_facts b n t nine layout intact table =
    let is : (t < (file_header b).e_shnum) × ((section_header_at b t).sh_type ≡ SHT_SYMTAB) = table_found b t table in
    record {
      inside = table_room b t layout (not_late b n t (omega arith) intact is.0) is.1;
      link = table_names b t (not_odd b n t nine intact table);
    }

-- A symbol of the file is one of its table.
pub record InTable (b : List ℕ) (section start count : ℕ) (names : List ℕ) (k : ℕ) : Type 0 where
  pub table : symbol_table b ≡ Some section
  pub is : IsTable b section start count names
  pub inside : k < symbols_in b section
  pub numbered : symbol_numbered b k ≡ Some (symbol_of_table b section k)

in_table : (b : List ℕ) (section start count : ℕ) (names : List ℕ) (k : ℕ) (o : Option ℕ) → symbol_table b ≡ o
    → MatchOption o (count ≡ 0) (λ t. (section ≡ t) × IsTable b section start count names)
    → k < option_map_or (symbols_in b) o 0 → InTable b section start count names k
in_table b section start count names k None table has low = absurd (omega arith)
in_table b section start count names k (Some t) table has low =
    let same : t ≡ section = sym has.0 in
    let here : symbol_table b ≡ Some section = table ∙ ap (λ (j : ℕ). Some j) same in
    let inside : k < symbols_in b section = (let P : ℕ → Type 0 = λ j. k < symbols_in b j in subst P same low) in
    record {
      table = here;
      is = has.1;
      inside = inside;
      numbered = rw (here, lt-ltb k (symbols_in b section) inside) refl;
    }

pub file_symbol : (b : List ℕ) (section start count : ℕ) (names : List ℕ) (k : ℕ) → HasSymbols b section start count names → k < symbols b → InTable b section start count names k
file_symbol b section start count names k has low = in_table b section start count names k (symbol_table b) refl has low

-- the number of symbols
count_is : (b : List ℕ) (section start count : ℕ) (names : List ℕ) (o : Option ℕ)
    → MatchOption o (count ≡ 0) (λ t. (section ≡ t) × IsTable b section start count names) → count ≡ option_map_or (symbols_in b) o 0
count_is b section start count names None has = has
count_is b section start count names (Some t) has = has.1.counted ∙ ap (λ (j : ℕ). symbols_in b j) has.0

pub symbol_count : (b : List ℕ) (section start count : ℕ) (names : List ℕ) → HasSymbols b section start count names → count ≡ symbols b
symbol_count b section start count names has = count_is b section start count names (symbol_table b) has

-- its name ends in the table
pub symbol_name_ends : (b : List ℕ) (t k at : ℕ) (names : List ℕ) → at ≡ symbol_offset b t (k + 1) → names ≡ symbol_names b t → (IsUnnamedSymbol b t k → ⊥) → EndsInside names (symbol_from b at).st_name
unfolding IsUnnamedSymbol
symbol_name_ends b t k at names here named fine =
    let ends : EndsInside (symbol_names b t) (symbol_row b t (k + 1)).st_name = ends_from (symbol_names b t) (symbol_row b t (k + 1)).st_name fine in
    let P : ℕ → Type 0 = λ p. EndsInside (symbol_names b t) (symbol_from b p).st_name in
    let Q : List ℕ → Type 0 = λ xs. EndsInside xs (symbol_from b at).st_name in
    subst Q (sym named) (subst P (sym here) ends)
