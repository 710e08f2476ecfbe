-- Addresses at their indices, as far as sections are placed.
use Rattle.std.specs.Prelude.{◌≡◌, ℕ, ◌<◌, ◌==◌, nat_le, if◌then◌else◌, List, length, take, get_or, slice_index, map}
use Rattle.std.specs.Option.{option_map_or}
use Rattle.glk_elf.specs.Sections.{rodata}
use Rattle.glk_layout.specs.declared.input.KeptSymbol.{KeptSymbol}
use Rattle.glk_layout.specs.Placed.{PlacedContents}
use Rattle.glk_layout.specs.Boxes.{box_address, end_after, address_in}
use Rattle.glk_layout.specs.Symbols.{is_in, box_of, boxes_in, home_of}
use Rattle.glk_layout.specs.Layout.{no_symbol, made_box, symbol_at, address_within, made_address}

-- the symbols of section n have their addresses at their indices, from a start on; every other address stays
abbrev pub PlacesIn : ℕ → ℕ → List KeptSymbol → List ℕ → List ℕ → Type 0
PlacesIn n start symbols old new =
    (i : ℕ) → i < length symbols
    → slice_index new i
    ≡ (if is_in n (get_or symbols i no_symbol)
    then box_address (end_after start (boxes_in n (take i symbols))) (box_of (get_or symbols i no_symbol))
    else slice_index old i)

-- in .rodata the made contents have their addresses after its symbols; in other sections nothing changes
abbrev pub PlacesMade : PlacedContents → ℕ → ℕ → List ℕ → List ℕ → Type 0
PlacesMade c n start old new =
    (i : ℕ) → i < length c.made
    → slice_index new i
    ≡ (if n == rodata
    then address_in (end_after start (boxes_in n c.symbols)) (map made_box c.made) i
    else slice_index old i)

-- the address of symbol i, once the sections up to number k are placed; else 0
abbrev pub address_by : PlacedContents → ℕ → ℕ → ℕ
address_by c k i = option_map_or (λ n. if nat_le n k then address_within c n i else 0) (home_of (symbol_at c i)) 0

-- the symbols and made contents of the sections up to number k have their addresses, and the others have 0
pub record ArePlacedTo (c : PlacedContents) (k : ℕ) (symbols made : List ℕ) : Type 0 where
  pub symbol_count : length symbols ≡ length c.symbols
  pub symbols_at : (i : ℕ) → i < length c.symbols → slice_index symbols i ≡ address_by c k i
  pub made_count : length made ≡ length c.made
  pub made_at : (i : ℕ) → i < length c.made
      → slice_index made i ≡ (if nat_le rodata k then made_address c i else 0)
