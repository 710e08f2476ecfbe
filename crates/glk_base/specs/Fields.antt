-- Records and headers as lists of fields, each a width in bytes and a number, the lowest byte first.
use Rattle.std.specs.Prelude.{ℕ, List, [], ◌∷◌, ◌++◌}
use Rattle.byteorder.specs.Endian.{little_bytes}
use Rattle.glk_base.specs.declared.fields.Field.{Field}
use Rattle.glk_base.specs.declared.fields.Field.TheVariants.{Byte, U16, U32, U64}

abbrev pub byte : ℕ → ℕ × ℕ
byte n = (1, n)

-- two bytes
abbrev pub u16 : ℕ → ℕ × ℕ
u16 n = (2, n)

-- four bytes
abbrev pub u32 : ℕ → ℕ × ℕ
u32 n = (4, n)

-- eight bytes
abbrev pub u64 : ℕ → ℕ × ℕ
u64 n = (8, n)

-- a field's width and number
abbrev pub field_view : Field → ℕ × ℕ
field_view (Byte n) = byte n
field_view (U16 n) = u16 n
field_view (U32 n) = u32 n
field_view (U64 n) = u64 n

-- the bytes of a field
abbrev pub field_bytes : ℕ × ℕ → List ℕ
field_bytes field = little_bytes field.0 field.1

-- the bytes of fields, one after the other
unfoldable pub fields_bytes : List (ℕ × ℕ) → List ℕ
fields_bytes [] = []
fields_bytes (field ∷ fields) = little_bytes field.0 field.1 ++ fields_bytes fields
