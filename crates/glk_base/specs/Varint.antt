-- Numbers in groups of seven bits, the lowest first; each byte but the last has its top bit set. Go writes them as
-- `binary.PutUvarint` does.
use Rattle.std.specs.Prelude.{ℕ, ◌+◌, ◌*◌, ◌%◌, List, [], ◌∷◌, length, take, Option, Some, None, cond, Bool, nat_lt, ◌&&◌}
use Rattle.std.specs.List.{position_or_len}
use Rattle.glk_base.specs.declared.varint.Varint.{Varint}

-- a byte without its top bit is the last of its varint
abbrev pub is_last : ℕ → Bool
is_last byte = nat_lt byte 128

-- the number that the low seven bits of each byte make, the first byte's lowest
abbrev pub number_of : List ℕ → ℕ
number_of [] = 0
number_of (byte ∷ rest) = byte % 128 + 128 * number_of rest

-- the number of these bytes as a varint of `before` bytes and a last one
abbrev pub varint_up_to : ℕ → ℕ → ℕ → List ℕ → Option Varint
varint_up_to most limit before bytes =
    cond (nat_lt before (length bytes) && nat_lt before most && nat_lt (number_of (take (before + 1) bytes)) limit)
    (Some (record { value = number_of (take (before + 1) bytes); size = before + 1 })) None

-- the varint that the bytes begin with, up to the first byte without its top bit: of at most `most` bytes, and below the
-- limit
unfoldable pub varint_of : ℕ → ℕ → List ℕ → Option Varint
varint_of most limit bytes = varint_up_to most limit (position_or_len is_last bytes) bytes
