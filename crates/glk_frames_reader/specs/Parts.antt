-- Parts of a region and of the search in it.
use Rattle.std.specs.Prelude.{ℕ, ◌≡◌, ◌+◌, ◌-◌, ◌*◌, ◌≤◌, ◌<◌, List, [], ◌∷◌, Option, None, Some, length, take, ℤ, Bool, true}
use Rattle.std.specs.Bool.{OnTrue}
use Rattle.glk_pcval.specs.Table.{value_of}
use Rattle.glk_frames.specs.Chain.{Frame, chain}
use Rattle.glk_elf.specs.ReaderFile.{IsElf}
use Rattle.glk_frames.specs.Region.{function_count, funcnametab_offset, cutab_offset, filetab_offset, pctab_offset, pclntable_offset, header_magic, record_inside, record_offset, start_of, IsRegion}
use Rattle.glk_frames_reader.specs.Opening.{FileModule}

-- the bytes begin with a whole pcHeader
pub record HasHeader (r : List ℕ) : Type 0 where
  pub whole : 72 ≤ length r
  pub magic : take 8 r ≡ header_magic

-- each table begins inside the bytes, and functab ends inside them
pub record HasTables (r : List ℕ) : Type 0 where
  pub names : funcnametab_offset r ≤ length r
  pub units : cutab_offset r ≤ length r
  pub files : filetab_offset r ≤ length r
  pub tables : pctab_offset r ≤ length r
  pub records : pclntable_offset r ≤ length r
  pub functab : pclntable_offset r + 8 * function_count r + 4 ≤ length r

-- no function starts before the one before it
abbrev pub Rises : List ℕ → Type 0
Rises r = (i j : ℕ) → i < j → j < function_count r → start_of r i ≤ start_of r j

-- the region of a module has the record at an offset
pub record HasRecord (m : FileModule) (r : List ℕ) (at : ℕ) : Type 0 where
  pub region : IsRegion r
  pub same : r ≡ m.region
  pub inside : record_inside r at ≡ true

-- and it is that of a function
pub record HasFunction (m : FileModule) (r : List ℕ) (index at : ℕ) : Type 0 where
  pub placed : HasRecord m r at
  pub below : index < function_count r
  pub is : at ≡ record_offset r index

-- what is known of an opened module: its region, its file, and, if it was seen, that no function starts before another
pub record IsOpened (r b : List ℕ) (rises : Bool) : Type 0 where
  pub region : IsRegion r
  pub elf : IsElf b
  pub rising : OnTrue rises (Rises r)

-- bytes have the same values at two offsets
abbrev pub SameValues : ℤ → ℤ → Type 0
SameValues a b = (table : List ℕ) → value_of table a ≡ value_of table b

-- a function of the region, whose record is inside it
abbrev pub IsInside : List ℕ → ℕ → Type 0
IsInside r i = (i < function_count r) × (record_inside r (record_offset r i) ≡ true)

-- the first of at most n frames from an offset on, with the offset of the next, or none
abbrev pub IsFirstFrame : (ℤ → Frame × Option ℤ) → ℕ → Option ℤ → Option (Frame × Option ℤ) → Type 0
IsFirstFrame step n next None = chain step n next ≡ []
IsFirstFrame step n next (Some found) = (0 < n) × (chain step n next ≡ found.0 ∷ chain step (n - 1) found.1)
