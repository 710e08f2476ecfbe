-- What a pc table means, for any bytes, and which bytes are one.
use Rattle.std.specs.Prelude.{ℕ, zero, suc, ◌≡◌, ◌+◌, ◌-◌, List, [], ◌∷◌, length, drop, Option, Some, None, cond, true, false, nat_lt, ◌==◌, ◌⊎◌, ℤ, pos, negsuc}
use Rattle.glk_pcval.specs.declared.step.Next.TheVariants as next
use Rattle.glk_pcval.specs.declared.step.State.{State}
use Rattle.glk_pcval.specs.Step.{next_of}

-- a table starts with the value -1 at offset 0
abbrev pub start : State
start = record { first = true; value = negsuc 0; end = 0 }

-- after a range, with its value at its end
abbrev pub state_after : ℤ × ℕ → State
state_after range = record { first = false; value = range.0; end = range.1 }

-- These bytes have a step for each range and then an end, which takes the last byte.
abbrev pub IsStepsOf : State → List (ℤ × ℕ) → List ℕ → Type 0
IsStepsOf from [] bytes = next_of from bytes ≡ next.Stop (length bytes)
IsStepsOf from (range ∷ ranges) bytes =
    (size : ℕ) × (next_of from bytes ≡ next.Range (state_after range) size) × IsStepsOf (state_after range) ranges (drop size bytes)

-- The tables of the format with these ranges: no bytes for no ranges, or a step for each and an end.
abbrev pub IsTableOf : List (ℤ × ℕ) → List ℕ → Type 0
IsTableOf ranges bytes = ((ranges ≡ []) × (bytes ≡ [])) ⊎ IsStepsOf start ranges bytes

-- these bytes are a table
abbrev pub IsTable : List ℕ → Type 0
IsTable bytes = (ranges : List (ℤ × ℕ)) × IsTableOf ranges bytes

-- The ranges of any bytes from a state on, each a value and the offset where it ends: those before the first end,
-- the first varint that breaks a rule, or the end of the bytes. The first `skipped` bytes belong to the step before.
unfoldable pub ranges_from : ℕ → State → List ℕ → List (ℤ × ℕ)
ranges_from skipped from [] = []
ranges_from (suc skipped) from (byte ∷ rest) = ranges_from skipped from rest
ranges_from zero from (byte ∷ rest) = elim (next_of from (byte ∷ rest)) [
  | next.Stop size ↦ []
  | next.Broken at ↦ []
  | next.Range state size ↦ (state.value, state.end) ∷ ranges_from (size - 1) state rest
]

-- the ranges of any bytes
abbrev pub ranges : List ℕ → List (ℤ × ℕ)
ranges bytes = ranges_from 0 start bytes

-- the value of the first range whose end lies past the offset
abbrev pub value_in : List (ℤ × ℕ) → ℕ → Option ℤ
value_in [] off = None
value_in (range ∷ ranges) off = cond (nat_lt off range.1) (Some range.0) (value_in ranges off)

-- the value of any bytes at an offset; there is none below 0
abbrev pub value_of : List ℕ → ℤ → Option ℤ
value_of bytes (pos off) = value_in (ranges bytes) off
value_of bytes (negsuc below) = None

-- The offset where bytes stop being a table, from a state on, with `at` bytes before these: the first varint that
-- breaks a rule, else the first byte after the end, else, where the end is missing, the number of bytes.
unfoldable pub fault_from : ℕ → State → ℕ → List ℕ → Option ℕ
fault_from skipped from at [] = Some at
fault_from (suc skipped) from at (byte ∷ rest) = fault_from skipped from (at + 1) rest
fault_from zero from at (byte ∷ rest) = elim (next_of from (byte ∷ rest)) [
  | next.Stop size ↦ cond (length (byte ∷ rest) == size) None (Some (at + size))
  | next.Broken size ↦ Some (at + size)
  | next.Range state size ↦ fault_from (size - 1) state (at + 1) rest
]

-- the one offset of bytes that are no table; no bytes are one
abbrev pub fault : List ℕ → Option ℕ
fault [] = None
fault (byte ∷ rest) = fault_from 0 start 0 (byte ∷ rest)
