-- One step of a pc table: a varint that changes the value, and a varint that says how far the new value reaches.
use Rattle.std.specs.Prelude.{ℕ, ◌+◌, ◌/◌, ◌%◌, ◌^◌, ◌<◌, ◌≤◌, List, drop, Option, Some, None, cond, Bool, false, not, ◌&&◌}
use Rattle.std.specs.Prelude.{ℤ, pos, negsuc, ◌+ℤ◌, ◌==◌, nat_lt}
use Rattle.glk_base.specs.declared.varint.Varint.{Varint}
use Rattle.glk_base.specs.Varint.{varint_of}
use Rattle.glk_pcval.specs.declared.step.Next.{Next}
use Rattle.glk_pcval.specs.declared.step.Next.TheVariants as next
use Rattle.glk_pcval.specs.declared.step.State.{State}

-- the longest varint of a table, in bytes
abbrev pub longest_varint : ℕ
longest_varint = 5

-- and its number is below this
abbrev pub number_limit : ℕ
number_limit = 2 ^ 32

-- the change that a number stands for: even numbers are 0, 1, 2 .., odd ones -1, -2 ..
unfoldable pub zigzag : ℕ → ℤ
zigzag n = cond (n % 2 == 0) (pos (n / 2)) (negsuc (n / 2))

-- from -2^31 up to 2^31 - 1
unfoldable pub fits_i32 : ℤ → Bool
fits_i32 (pos n) = nat_lt n (2 ^ 31)
fits_i32 (negsuc n) = nat_lt n (2 ^ 31)

-- the next value, if it is one
unfoldable pub next_value : ℤ → ℕ → Option ℤ
next_value value number = cond (fits_i32 (value +ℤ zigzag number)) (Some (value +ℤ zigzag number)) None

-- below 2^32
abbrev pub fits_u32 : ℕ → Bool
fits_u32 n = nat_lt n (2 ^ 32)

-- the next end, if it is one
unfoldable pub next_end : ℕ → ℕ → Option ℕ
next_end end width = cond (fits_u32 (end + width)) (Some (end + width)) None

-- a change of 0 ends a table, but the first
unfoldable pub ends_table : Bool → ℕ → Bool
ends_table first number = number == 0 && not first

-- What the bytes begin with, read in the order of its parts. Each name says what has been read; `taken` is the size of
-- the change, and a varint that is none of the format breaks a rule where it begins.

abbrev pub with_end : ℤ → ℕ → ℕ → Option ℕ → Next
with_end value taken size None = next.Broken taken
with_end value taken size (Some end) = next.Range (record { first = false; value = value; end = end }) (taken + size)

abbrev pub with_width : ℕ → ℤ → ℕ → Option Varint → Next
with_width end value taken None = next.Broken taken
with_width end value taken (Some width) = with_end value taken width.size (next_end end width.value)

abbrev pub with_value : ℕ → List ℕ → ℕ → Option ℤ → Next
with_value end bytes taken None = next.Broken 0
with_value end bytes taken (Some value) = with_width end value taken (varint_of longest_varint number_limit (drop taken bytes))

abbrev pub with_change : State → List ℕ → Option Varint → Next
with_change from bytes None = next.Broken 0
with_change from bytes (Some change) =
    cond (ends_table from.first change.value) (next.Stop change.size)
    (with_value from.end bytes change.size (next_value from.value change.value))

-- the next range, the end, or a varint that breaks a rule
unfoldable pub next_of : State → List ℕ → Next
next_of from bytes = with_change from bytes (varint_of longest_varint number_limit bytes)

-- it is inside n bytes, and takes some unless it is broken
abbrev pub IsInside : ℕ → Next → Type 0
IsInside n (next.Stop size) = (0 < size) × (size ≤ n)
IsInside n (next.Broken at) = at ≤ n
IsInside n (next.Range state size) = (0 < size) × (size ≤ n)
