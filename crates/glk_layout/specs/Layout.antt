-- Where sections, symbols and made contents are in memory: functions of what is placed.
use Rattle.std.specs.Prelude.{◌≡◌, ℕ, ◌+◌, ◌-◌, ◌<◌, ◌≤◌, ◌==◌, if◌then◌else◌, suc, zero, Option, Some, None, List, [], ◌∷◌, ◌++◌, length, take, get_or, slice_index, map, All, ◌^◌}
use Rattle.std.specs.Option.{option_map}
use Rattle.std.specs.List.{sum_by}
use Rattle.glk_elf.specs.Sections.{text, rodata, typelink, itablink, gopclntab, go_module, bss, tbss, placed_sections}
use Rattle.glk_elf.specs.Image.{multiple_from}
use Rattle.glk_elf.specs.Placing.{text_start, start_multiple, of_section, ArePlaced}
use Rattle.glk_layout.specs.declared.input.KeptSymbol.{KeptSymbol}
use Rattle.glk_layout.specs.declared.input.MadeContent.{MadeContent}
use Rattle.glk_layout.specs.declared.input.Tables.{Tables}
use Rattle.glk_layout.specs.Placed.{PlacedContents}
use Rattle.glk_layout.specs.declared.placing.Layout.{Layout}
use Rattle.glk_layout.specs.Boxes.{Box, box_address, end_after, address_in}
use Rattle.glk_layout.specs.Symbols.{home_of, box_of, boxes_in}

-- the box of a made content
abbrev pub made_box : MadeContent → Box
made_box m = record { align = m.align; room = m.size }

-- bytes that need no alignment beside that of their section
abbrev pub whole_box : ℕ → Box
whole_box size = record { align = 1; room = size }

-- the size of a section that is one table
abbrev pub table_size : Tables → ℕ → ℕ
table_size t n =
    if n == typelink then t.typelink
    else (if n == itablink then t.itablink
    else (if n == gopclntab then t.gopclntab
    else (if n == go_module then t.go_module else 0)))

-- what is in a section after its symbols: made contents in .rodata, and a table in some others
abbrev pub made_boxes : PlacedContents → ℕ → List Box
made_boxes c n =
    if n == rodata then map made_box c.made else whole_box (table_size c.tables n) ∷ []

-- the boxes of a section: its symbols in load order, then what is made for it
abbrev pub section_boxes : PlacedContents → ℕ → List Box
section_boxes c n = boxes_in n c.symbols ++ made_boxes c n

-- Where a section ends. It starts at the least multiple from the end of the section before; before the first section
-- memory ends where .text starts.
unfoldable pub section_end : PlacedContents → ℕ → ℕ
section_end c zero = text_start
section_end c (suc n) = end_after (multiple_from (start_multiple (suc n)) (section_end c n)) (section_boxes c (suc n))

-- where a section starts
unfoldable pub section_start : PlacedContents → ℕ → ℕ
section_start c n = multiple_from (start_multiple n) (section_end c (n - 1))

-- the address of a section: .tbss takes no addresses and has that of .bss
abbrev pub section_address : PlacedContents → ℕ → ℕ
section_address c n = if n == tbss then section_start c bss else section_start c n

abbrev pub section_size : PlacedContents → ℕ → ℕ
section_size c n = if n == tbss then c.tables.tbss else section_end c n - section_start c n

abbrev pub no_symbol : KeptSymbol
no_symbol = record { kind = None; align = 0; size = 0; name_len = 0 }

-- the symbol of an index in load order
abbrev pub symbol_at : PlacedContents → ℕ → KeptSymbol
symbol_at c i = get_or c.symbols i no_symbol

-- where the symbols of section n end that come before symbol i
unfoldable pub end_before : PlacedContents → ℕ → ℕ → ℕ
end_before c n i = end_after (section_start c n) (boxes_in n (take i c.symbols))

-- the address of symbol i in section n
abbrev pub address_within : PlacedContents → ℕ → ℕ → ℕ
address_within c n i = box_address (end_before c n i) (box_of (symbol_at c i))

-- the address of symbol i, if it is in a section
abbrev pub symbol_address : PlacedContents → ℕ → Option ℕ
symbol_address c i = option_map (λ n. address_within c n i) (home_of (symbol_at c i))

-- where the made contents of .rodata may start: after its symbols
abbrev pub made_start : PlacedContents → ℕ
made_start c = end_after (section_start c rodata) (boxes_in rodata c.symbols)

-- the address of made content i
abbrev pub made_address : PlacedContents → ℕ → ℕ
made_address c i = address_in (made_start c) (map made_box c.made) i

-- what a list of addresses has at an index; 0 stands for none
abbrev pub address_at : List ℕ → ℕ → Option ℕ
address_at addrs i = if slice_index addrs i == 0 then None else Some (slice_index addrs i)

-- these are the addresses and sizes of all sections, symbols and made contents
pub record IsLayout (c : PlacedContents) (l : Layout) : Type 0 where
  pub addrs : (n : ℕ) → text ≤ n → n ≤ placed_sections → of_section l.addrs n ≡ section_address c n
  pub sizes : (n : ℕ) → text ≤ n → n ≤ placed_sections → of_section l.sizes n ≡ section_size c n
  pub placed : ArePlaced l.sizes l.addrs
  pub symbol_count : length l.symbols.items ≡ length c.symbols
  pub symbols : (i : ℕ) → i < length c.symbols → address_at l.symbols.items i ≡ symbol_address c i
  pub made_count : length l.made.items ≡ length c.made
  pub made : (i : ℕ) → i < length c.made → slice_index l.made.items i ≡ made_address c i

-- the limits under which no sum of sizes is too great for a number
abbrev pub symbol_limit : ℕ
symbol_limit = 2 ^ 24

abbrev pub table_limit : ℕ
table_limit = 2 ^ 58

-- what may be placed
pub record IsPlaceable (c : PlacedContents) : Type 0 where
  pub few : length c.symbols ≤ symbol_limit
  pub aligned : All (λ m. 0 < m.align) c.made
  pub made : sum_by (λ m. m.align + m.size) c.made ≤ table_limit
  pub typelink : c.tables.typelink ≤ table_limit
  pub itablink : c.tables.itablink ≤ table_limit
  pub gopclntab : c.tables.gopclntab ≤ table_limit
  pub go_module : c.tables.go_module ≤ table_limit
