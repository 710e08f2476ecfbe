-- Names: a byte of flags, the length as a varint, the bytes.
use Rattle.std.specs.Prelude.{◌^◌, ℕ, ℤ, List, [], ◌∷◌, Bool, true, false, Option, Some, None, nat_le, length, take, drop, if◌then◌else◌}
use Rattle.std.specs.Option.{option_and_then}
use Rattle.glk_base.specs.declared.varint.Varint.{Varint}
use Rattle.glk_base.specs.Varint.{varint_of}
use Rattle.glk_types.specs.Targets.{offset_of}

-- the longest varint of a name, in bytes
abbrev pub longest_varint : ℕ
longest_varint = 5

-- a bound on lengths that says no more: five groups of seven bits are below it
abbrev pub length_limit : ℕ
length_limit = 2 ^ 35

-- the first n bytes after the varint of n, where there are as many
abbrev pub counted : List ℕ → Varint → Option (List ℕ)
counted bytes n = if nat_le n.value (length (drop n.size bytes)) then Some (take n.value (drop n.size bytes)) else None

-- the name that the bytes begin with
abbrev pub name_from : List ℕ → Option (List ℕ)
name_from [] = None
name_from (flags ∷ rest) = option_and_then (counted rest) (varint_of longest_varint length_limit rest)

-- the name in the data at an addend
unfoldable pub name_at : List ℕ → ℤ → Option (List ℕ)
name_at bytes start = option_and_then (λ at. name_from (drop at bytes)) (offset_of start)

-- A type's string is the name that its field `str` refers to. With an extra star the name has one byte more
-- as its first, so an empty name has no string.
abbrev pub string_of : Bool → List ℕ → Option (List ℕ)
string_of false name = Some name
string_of true [] = None
string_of true (star ∷ string) = Some string
