-- The image of a world.
use Rattle.std.specs.Prelude.{◌≡◌, ℕ, ◌<◌, ◌≤◌, List, [], Some}
use Rattle.glk_elf.specs.Image.{Parts, section, elf_bytes}
use Rattle.glk_elf.specs.Placing.{IsPlaced, text_start}
use Rattle.glk_elf.specs.Sections.{text, tbss}
use Rattle.glk_link.specs.World.{symbol_at}
use Rattle.glk_link.specs.Reach.{IsEntry}
use Rattle.glk_link.specs.Layout.{AreAt, address_of}
use Rattle.glk_link.specs.Contents.{IsTextFrom}
use Rattle.glk_arena.specs.World.{Package}

-- the image starts at row i: the entry of ABI 0, else that of ABIInternal
pub record IsStart (world : List Package) (entry : List ℕ) (i : ℕ) : Type 0 where
  pub is_entry : IsEntry world entry i
  pub first : (j : ℕ) → IsEntry world entry j → (symbol_at world i).abi ≤ (symbol_at world j).abi

-- `.text` has these bytes, and the ten sections after it are empty
pub record HasTextAlone (parts : Parts) (bytes : List ℕ) : Type 0 where
  pub code : (section parts text).bytes ≡ bytes
  pub empty : (n : ℕ) → text < n → n ≤ tbss → (section parts n).size ≡ 0
  pub no_rows : parts.rows ≡ []

-- the bytes are the image of a text that starts at an address
abbrev pub IsImageWith : ℕ → List ℕ → List ℕ → Type 0
IsImageWith entry bytes image =
    (parts : Parts) × (parts.entry ≡ entry) × HasTextAlone parts bytes × IsPlaced parts × (image ≡ elf_bytes parts)

-- the bytes are the image of these definitions, which starts at row `start`
pub record IsImageOf (world : List Package) (kept : List ℕ) (start : ℕ) (image : List ℕ) : Type 0 where
  pub addrs : List ℕ
  pub bytes : List ℕ
  pub parts : Parts
  pub are_at : AreAt world text_start kept addrs
  pub is_text : IsTextFrom world (address_of kept addrs) text_start kept addrs bytes
  pub starts : address_of kept addrs start ≡ Some parts.entry
  pub sections : HasTextAlone parts bytes
  pub placed : IsPlaced parts
  pub joined : image ≡ elf_bytes parts
