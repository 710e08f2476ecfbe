-- Which ranges can be written as a table, and its bytes.
use Rattle.std.specs.Prelude.{ℕ, zero, suc, ◌≢◌, ◌+◌, ◌-◌, ◌*◌, ◌/◌, ◌%◌, ◌<◌, List, [], ◌∷◌, ◌++◌, nat_lt, if◌then◌else◌, ℤ, pos, negsuc, ◌-ℤ◌, FitsSigned}
use Rattle.std.specs.Int.{w32}
use Rattle.glk_pcval.specs.declared.step.State.{State}
use Rattle.glk_pcval.specs.Step.{longest_varint}
use Rattle.glk_pcval.specs.Table.{start, state_after}

-- each range ends above the one before, has another value, and the change fits 32 bits
abbrev pub Continues : ℤ × ℕ → List (ℤ × ℕ) → Type 0
Continues before [] = Unit {0}
Continues before (range ∷ ranges) =
    (before.1 < range.1) × (before.0 ≢ range.0) × FitsSigned w32 (range.0 -ℤ before.0) × Continues range ranges

-- The ranges that a table is written of: the first ends above the start, and changes its value by what fits 32 bits
-- or keeps it; the others go on from the first.
abbrev pub IsEncodable : List (ℤ × ℕ) → Type 0
IsEncodable [] = Unit {0}
IsEncodable (range ∷ ranges) =
    (start.end < range.1) × FitsSigned w32 (range.0 -ℤ start.value) × Continues range ranges

-- the shortest spelling of a number, of at most `most` bytes: in groups of seven bits, the lowest first, up to the
-- highest that is not 0
abbrev pub varint_bytes : ℕ → ℕ → List ℕ
varint_bytes zero n = []
varint_bytes (suc most) n = if nat_lt n 128 then n ∷ [] else (n % 128 + 128) ∷ varint_bytes most (n / 128)

-- the number that stands for a change: 0, 2, 4 .. for 0, 1, 2 .., and 1, 3 .. for -1, -2 ..
unfoldable pub number_of : ℤ → ℕ
number_of (pos n) = 2 * n
number_of (negsuc n) = 2 * n + 1

-- a step from a state to a range: the change of the value, and how far the range reaches
abbrev pub step_bytes : State → ℤ × ℕ → List ℕ
step_bytes from range =
    varint_bytes longest_varint (number_of (range.0 -ℤ from.value)) ++ varint_bytes longest_varint (range.1 - from.end)

-- a step for each range, and a zero
abbrev pub steps_bytes : State → List (ℤ × ℕ) → List ℕ
steps_bytes from [] = 0 ∷ []
steps_bytes from (range ∷ ranges) = step_bytes from range ++ steps_bytes (state_after range) ranges

-- the table that is written of ranges
abbrev pub table_bytes : List (ℤ × ℕ) → List ℕ
table_bytes [] = []
table_bytes (range ∷ ranges) = steps_bytes start (range ∷ ranges)
