-- Where the bytes of sections are in the file, and what a change of them changes.
use Rattle.std.specs.Prelude.{◌≡◌, ◌⊎◌, ℕ, ◌+◌, ◌-◌, ◌<◌, ◌≤◌, List, ◌++◌, length, take, drop, map, get_or, slice_range}
use Rattle.std.specs.Prelude.{Some}
use Rattle.glk_elf.specs.Sections.{text, written_data}
use Rattle.glk_elf.specs.Image.{Parts, Section, section, image_base, elf_bytes}
use Rattle.glk_elf.specs.Placing.{IsPlaced}
use Rattle.glk_elf.specs.ReaderLaw.{FitsFields}
use Rattle.glk_elf.specs.ReaderSections.{loaded}

-- the offset in the file of a section that is in the file
abbrev pub file_offset : Section → ℕ
file_offset s = s.addr - image_base

-- the bytes of a file where a section is
abbrev pub bytes_at : List ℕ → Section → List ℕ
bytes_at b s = slice_range b (file_offset s) (file_offset s + s.size)

-- a section with the bytes that a file has where it is
abbrev pub section_from : List ℕ → Section → Section
section_from b s = record { addr = s.addr; size = s.size; bytes = bytes_at b s }

-- the same parts, but that each section in the file has its bytes from this file
abbrev pub parts_from : List ℕ → Parts → Parts
parts_from b p = record {
  entry = p.entry;
  sections = map (section_from b) (take written_data p.sections) ++ drop written_data p.sections;
  rows = p.rows;
}

-- an offset of the file is in no section
abbrev pub IsOutsideSections : Parts → ℕ → Type 0
IsOutsideSections p i =
    (n : ℕ) → text ≤ n → n ≤ written_data
    → (i < file_offset (section p n)) ⊎ (file_offset (section p n) + (section p n).size ≤ i)

-- a file differs from the image of these parts within sections alone
pub record DiffersInSections (p : Parts) (b : List ℕ) : Type 0 where
  pub size : length b ≡ length (elf_bytes p)
  pub same : (i : ℕ) → IsOutsideSections p i → get_or b i 0 ≡ get_or (elf_bytes p) i 0

-- each section is in the image at its address less the base
abbrev pub SectionsInFile : Type 0
SectionsInFile =
    (p : Parts) (n : ℕ) → IsPlaced p → text ≤ n → n ≤ written_data
    → bytes_at (elf_bytes p) (section p n) ≡ (section p n).bytes

-- a file that differs within sections alone is the image of the parts with these sections' bytes
pub record IsImageOfChanged (p : Parts) (b : List ℕ) : Type 0 where
  pub image : b ≡ elf_bytes (parts_from b p)
  pub placed : IsPlaced (parts_from b p)
  pub sections : (n : ℕ) → text ≤ n → n ≤ written_data → section (parts_from b p) n ≡ section_from b (section p n)
  pub fits : FitsFields p → FitsFields (parts_from b p)

abbrev pub SectionsPatched : Type 0
SectionsPatched = (p : Parts) (b : List ℕ) → IsPlaced p → DiffersInSections p b → IsImageOfChanged p b

-- any part of a section is in memory at its address
abbrev pub MemoryWithin : Type 0
MemoryWithin =
    (p : Parts) (n at len : ℕ) → IsPlaced p → FitsFields p → text ≤ n → n ≤ written_data → at + len ≤ (section p n).size
    → loaded (elf_bytes p) ((section p n).addr + at) len ≡ Some (slice_range (section p n).bytes at (at + len))
