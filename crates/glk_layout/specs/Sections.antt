-- The addresses and sizes of all sections, by number.
use Rattle.std.specs.Prelude.{◌≡◌, ℕ, ◌≤◌, List}
use Rattle.glk_elf.specs.Sections.{text, placed_sections}
use Rattle.glk_elf.specs.Placing.{of_section, ArePlaced}
use Rattle.glk_layout.specs.Placed.{PlacedContents}
use Rattle.glk_layout.specs.Layout.{section_address, section_size}

-- these are the addresses and sizes of all sections
pub record AreRanges (c : PlacedContents) (addrs sizes : List ℕ) : Type 0 where
  pub addrs_at : (n : ℕ) → text ≤ n → n ≤ placed_sections → of_section addrs n ≡ section_address c n
  pub sizes_at : (n : ℕ) → text ≤ n → n ≤ placed_sections → of_section sizes n ≡ section_size c n
  pub placed : ArePlaced sizes addrs
