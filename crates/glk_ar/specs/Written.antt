-- The archive that golink writes: one object as its only member.
use Rattle.std.specs.Prelude.{◌≡◌, ◌+◌, ◌-◌, ◌%◌, ◌<◌, ℕ, List, [], ◌∷◌, ◌++◌, length, codes, decimal, replicate, Ok}
use Rattle.glk_base.specs.declared.fault.Fault.{Fault}
use Rattle.glk_base.specs.declared.fault.Fault.TheVariants as fault
use Rattle.glk_base.specs.declared.fault.TooBig.{TooBig}
use Rattle.glk_base.specs.Limits.{file_limit}
use Rattle.glk_ar.specs.Member.{space, name_width, time_width, user_width, group_width, mode_width, size_width, header_end, header_length}
use Rattle.glk_ar.specs.Archive.{Entry, magic, first_offset, Archive}
use Rattle.glk_ar.specs.Part.{Part, newline, mark, HoldsPart}

-- a text and spaces after it up to a width
abbrev pub padded_field : ℕ → List ℕ → List ℕ
padded_field width text = text ++ replicate (width - length text) space

-- the name that Go's assembler and compiler give an object's member
abbrev pub object_name : List ℕ
object_name = codes "_go_.o"

-- The fields before the size: the name, no time, no user, no group, and the mode.
abbrev pub fields_before_size : List ℕ
fields_before_size =
    padded_field name_width object_name ++ padded_field time_width (codes "0") ++ padded_field user_width (codes "0")
    ++ padded_field group_width (codes "0") ++ padded_field mode_width (codes "644")

abbrev pub header_with : ℕ → List ℕ
header_with size = fields_before_size ++ padded_field size_width (decimal size) ++ header_end

abbrev pub object_line : List ℕ
object_line = codes "go object linux amd64 mkobj"

-- the body with these data: the line, the mark, and the data
abbrev pub body_with : List ℕ → List ℕ
body_with goobj = object_line ++ mark ++ goobj

-- a newline after a body of odd length
abbrev pub padding_of : List ℕ → List ℕ
padding_of body = replicate (length body % 2) newline

-- the archive with these data
unfoldable pub archive_with : List ℕ → List ℕ
archive_with goobj = magic ++ header_with (length (body_with goobj)) ++ body_with goobj ++ padding_of (body_with goobj)

-- and its length, with a header that has room for the size
abbrev pub archive_length : List ℕ → ℕ
archive_length goobj = let size = length (body_with goobj) in first_offset + header_length + size + size % 2

-- its only member
abbrev pub member_with : List ℕ → Entry
member_with goobj = record { name = object_name; body = body_with goobj; at = first_offset }

-- and the object in it
abbrev pub part_with : List ℕ → Part
part_with goobj = record { line = object_line; goobj = goobj; at = length object_line + length mark }

-- These bytes, read as an archive, have that member alone, and it holds that object.
pub record IsReadBack (goobj bytes : List ℕ) : Type 0 where
  pub archive : Archive bytes (Ok (member_with goobj ∷ []))
  pub object : HoldsPart (body_with goobj) (part_with goobj)

-- The call was refused for the length that its answer would have, which it reports; or it ran out of memory.
abbrev pub IsRefusalFor : ℕ → Fault TooBig → Type 0
IsRefusalFor n (fault.Bad bad) = (file_limit < n) × (bad.number ≡ n)
IsRefusalFor n fault.OutOfMemory = Unit {0}
