-- What the passes of a link hand to one another: what is to be placed, and at which addresses.
use Rattle.std.specs.Prelude.{◌≡◌, ℕ, ◌<◌, ◌≤◌, ◌^◌, List, All, Some, length, slice_index}
use Rattle.std.specs.List.{AllPairs}
use Rattle.glk_elf.specs.Placing.{text_start}
use Rattle.glk_link.specs.World.{AreObjects, byte_count, rows, IsDefinition, symbol_at}
use Rattle.glk_link.specs.Built.{IsBuilt}
use Rattle.glk_link.specs.Layout.{AreAt, address_of}
use Rattle.glk_arena.specs.World.{Package, objects_of, file_bytes}

-- the objects of a link have no more bytes together today
abbrev pub linked_bytes : ℕ
linked_bytes = 2 ^ 20

-- so that each function has an address below this, and `.text` is no longer than twice that
abbrev pub code_limit : ℕ
code_limit = 2 ^ 28

abbrev pub text_limit : ℕ
text_limit = 2 ^ 29

-- addresses below the limit
abbrev pub AreLow : List ℕ → Type 0
AreLow addrs = All (λ a. a < code_limit) addrs

-- definitions that golink places, each once, in load position, of a world that it links
pub record AreChosen (world : List Package) (kept : List ℕ) : Type 0 where
  pub objects : AreObjects (objects_of world)
  pub small : byte_count (objects_of world) ≤ linked_bytes
  pub rising : AllPairs (λ i j. i < j) kept
  pub range : All (IsDefinition world) kept
  pub built : All (IsBuilt world) kept

-- one such definition
pub record IsChosen (world : List Package) (i : ℕ) : Type 0 where
  pub objects : AreObjects (objects_of world)
  pub definition : IsDefinition world i
  pub built : IsBuilt world i
  pub small : (symbol_at world i).size ≤ linked_bytes

-- an address for each row
pub record ArePlaces (world : List Package) (places : List ℕ) : Type 0 where
  pub size : length places ≡ rows (objects_of world)
  pub low : AreLow places

-- the address by row of each of these definitions
abbrev pub AreByRow : List ℕ → List ℕ → List ℕ → Type 0
AreByRow kept addrs places = (t a : ℕ) → address_of kept addrs t ≡ Some a → slice_index places t ≡ a

-- the addresses of the chosen definitions, in their order and by row
pub record IsPlan (world : List Package) (kept addrs places : List ℕ) : Type 0 where
  pub chosen : AreChosen world kept
  pub at : AreAt world text_start kept addrs
  pub same : length addrs ≡ length kept
  pub low : AreLow addrs
  pub by_row : ArePlaces world places
  pub each : AreByRow kept addrs places

-- objects, no longer together than the files of their packages
pub record IsFitting (world : List Package) : Type 0 where
  pub objects : AreObjects (objects_of world)
  pub fit : byte_count (objects_of world) ≤ file_bytes world

-- objects, few bytes of them
pub record AreFewBytes (world : List Package) : Type 0 where
  pub objects : AreObjects (objects_of world)
  pub bytes : byte_count (objects_of world) ≤ linked_bytes
