-- Fields that can be written into an image.
use Rattle.std.specs.Prelude.{◌≡◌, ℕ, ◌+◌, ◌≤◌, None, All, List, length, get_or, Some}
use Rattle.glk_elf.specs.Image.{image_base}
use Rattle.glk_elf.specs.Sections.{text, written_data}
use Rattle.glk_keys.specs.Definitions.{chosen_of}
use Rattle.glk_keys.specs.Rows.{row_at}
use Rattle.glk_layout.specs.Layout.{section_start, section_end}
use Rattle.glk_merge.specs.Mergings.{IsKey}
use Rattle.glk_obj.specs.Rules.{IsContentKind}
use Rattle.glk_placing.specs.Programs.{PlacedProgram, contents_of, key_at}
use Rattle.glk_reach.specs.RelocFaults.{reloc_fault}
use Rattle.glk_reloc.specs.declared.fields.Field.{Field}
use Rattle.glk_reloc.specs.Fields.{IsSized, AreApart}
use Rattle.glk_fields.specs.declared.places.FieldPlace.{FieldPlace}
use Rattle.glk_fields.specs.Places.{reloc_in, fields_at}

-- no relocation of a kept symbol is at fault
abbrev pub AreSoundKeys : PlacedProgram → Type 0
AreSoundKeys s = All (λ k. reloc_fault s.program k ≡ None) s.kept

-- the field of a place ends within its symbol, if that has content
abbrev pub EndsInside : PlacedProgram → FieldPlace → Type 0
EndsInside s f =
    (r : ℕ) → chosen_of s.program (key_at s f.index) ≡ Some r → IsContentKind (row_at s.program r).symbol.kind
    → f.offset + (reloc_in s r f.reloc).size ≤ (row_at s.program r).symbol.size

-- a field is within a section that is in the file
pub record IsInFile (s : PlacedProgram) (f : Field) : Type 0 where
  pub section : ℕ
  pub first : text ≤ section
  pub last : section ≤ written_data
  pub from : section_start (contents_of s) section ≤ image_base + f.at
  pub to : image_base + f.at + f.size ≤ section_end (contents_of s) section

-- each has a size, and is in the file; no two share a byte, and they rise
pub record AreWritable (s : PlacedProgram) (fields : List Field) : Type 0 where
  pub sized : All IsSized fields
  pub apart : AreApart fields
  pub inside : All (IsInFile s) fields
