-- What holds of all layouts: boxes are aligned, in order, and share no byte.
use Rattle.std.specs.Prelude.{◌≡◌, ℕ, ◌+◌, ◌%◌, ◌<◌, ◌≤◌, true, List, length, get_or, All}
use Rattle.glk_elf.specs.Sections.{text, noptrbss}
use Rattle.glk_elf.specs.Placing.{text_start}
use Rattle.glk_layout.specs.Placed.{PlacedContents}
use Rattle.glk_layout.specs.Boxes.{Box, no_box, end_after, address_in, end_in}
use Rattle.glk_layout.specs.Symbols.{is_in, alignment_of, room_of, boxes_in}
use Rattle.glk_layout.specs.Layout.{section_start, section_end, symbol_at, address_within, IsPlaceable}

-- boxes from a bound on: each on its alignment, the first not before the bound, and each after all before it
pub record AreInOrder (bound : ℕ) (boxes : List Box) : Type 0 where
  pub aligned : (i : ℕ) → i < length boxes → address_in bound boxes i % (get_or boxes i no_box).align ≡ 0
  pub from : (i : ℕ) → i < length boxes → bound ≤ address_in bound boxes i
  pub apart : (i j : ℕ) → i < j → j < length boxes → end_in bound boxes i ≤ address_in bound boxes j
  pub to : (i : ℕ) → i < length boxes → end_in bound boxes i ≤ end_after bound boxes

-- boxes with alignments are in order
abbrev pub BoxesAreInOrder : Type 0
BoxesAreInOrder = (bound : ℕ) (boxes : List Box) → All (λ b. 0 < b.align) boxes → AreInOrder bound boxes

-- the symbols of a section: each on its alignment, within the section, and after all before it
pub record SymbolsInOrder (c : PlacedContents) (n : ℕ) : Type 0 where
  pub aligned : (i : ℕ) → i < length c.symbols → is_in n (symbol_at c i) ≡ true
      → address_within c n i % alignment_of (symbol_at c i) ≡ 0
  pub from : (i : ℕ) → i < length c.symbols → is_in n (symbol_at c i) ≡ true
      → section_start c n ≤ address_within c n i
  pub apart : (i j : ℕ) → i < j → j < length c.symbols → is_in n (symbol_at c i) ≡ true
      → address_within c n i + room_of (symbol_at c i) ≤ address_within c n j
  pub to : (i : ℕ) → i < length c.symbols → is_in n (symbol_at c i) ≡ true
      → address_within c n i + room_of (symbol_at c i) ≤ section_end c n

abbrev pub AreSymbolsInOrder : Type 0
AreSymbolsInOrder = (c : PlacedContents) (n : ℕ) → IsPlaceable c → text ≤ n → n ≤ noptrbss → SymbolsInOrder c n

-- sections are in order, and each takes no less than its boxes
abbrev pub AreSectionsInOrder : Type 0
AreSectionsInOrder =
    (c : PlacedContents) (n : ℕ) → IsPlaceable c → text ≤ n → n ≤ noptrbss
    → (section_start c n ≤ section_end c n) × (section_end c n ≤ section_start c (n + 1))

-- .text ends where its symbols do
abbrev pub TextEnds : Type 0
TextEnds = (c : PlacedContents) → section_end c text ≡ end_after text_start (boxes_in text c.symbols)
