-- Numbers in bytes, the lowest byte first.
use Rattle.std.specs.Prelude.{ℕ, List, drop}
use Rattle.byteorder.specs.Endian.{little_number}

-- the number in the n bytes from offset at on
unfoldable pub number_at : ℕ → List ℕ → ℕ → ℕ
number_at n bytes at = little_number n (drop at bytes)
