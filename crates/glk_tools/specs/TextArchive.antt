-- The package archive that a text makes.
use Rattle.std.specs.Prelude.{◌≡◌, ℕ, List, length, if◌then◌else◌, nat_lt, Result, Ok, Err, ⊤}
use Rattle.glk_base.specs.declared.fault.Fault.{Fault}
use Rattle.glk_base.specs.declared.fault.Fault.TheVariants as fault
use Rattle.glk_ar.specs.Written.{archive_with, archive_length}
use Rattle.glk_base.specs.Limits.{file_limit}
use Rattle.glk_objdesc.specs.declared.desc.ObjDesc.{ObjDesc}
use Rattle.glk_objdesc.specs.Canonical.{object_bytes, object_limit, clamped}
use Rattle.glk_objtext.specs.declared.read.TextBad.{TextBad}
use Rattle.glk_objtext.specs.Reading.{read_text}
use Rattle.glk_tools.specs.declared.text_archive.MakeBad.{MakeBad}
use Rattle.glk_tools.specs.declared.text_archive.MakeBad.TheVariants as bad

-- the refusal of what would have that many bytes
abbrev pub too_big : ℕ → MakeBad
too_big n = bad.Big (record { number = n })

-- the archive with this object
abbrev pub archive_of_object : List ℕ → Result (List ℕ) MakeBad
archive_of_object object = if nat_lt file_limit (archive_length object) then Err (too_big (archive_length object)) else Ok (archive_with object)

-- the archive with the object of this description; a length past 2^64 - 1 is given as that number
abbrev pub archive_of_description : ObjDesc → Result (List ℕ) MakeBad
archive_of_description d = if nat_lt object_limit (length (object_bytes d)) then Err (too_big (clamped (length (object_bytes d)))) else archive_of_object (object_bytes d)

abbrev pub of_reading : Result ObjDesc TextBad → Result (List ℕ) MakeBad
of_reading (Ok d) = archive_of_description d
of_reading (Err broken) = Err (bad.Text broken)

-- the archive that a text makes, or why it makes none: its first bad line, or the length that the object or the archive would have
unfoldable pub archive_of_text : List ℕ → Result (List ℕ) MakeBad
archive_of_text text = of_reading (read_text text)

-- why a text made no archive, or the call is out of memory
abbrev pub HasNoArchive : List ℕ → Fault MakeBad → Type 0
HasNoArchive text (fault.Bad broken) = archive_of_text text ≡ Err broken
HasNoArchive text fault.OutOfMemory = ⊤

-- the same of an answer by which an object has no archive
abbrev pub IsRefusedBy : Result (List ℕ) MakeBad → Fault MakeBad → Type 0
IsRefusedBy answer (fault.Bad broken) = answer ≡ Err broken
IsRefusedBy answer fault.OutOfMemory = ⊤
