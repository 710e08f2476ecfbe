-- What holds of the ranges and the values of all bytes.
use Rattle.std.specs.Prelude.{◌≡◌, ◌≢◌, ◌≤◌, ◌^◌, ℕ, ℤ, pos, List, [], ◌++◌, length, Some, None}
use Rattle.std.specs.List.Sorted.{IsNonDecreasingBy}
use Rattle.glk_base.specs.declared.varint.Varint.{Varint}
use Rattle.glk_base.specs.Varint.{varint_of}
use Rattle.glk_pcval.specs.Step.{longest_varint, number_limit}
use Rattle.glk_pcval.specs.Table.{ranges, value_of, IsTable}
use Rattle.glk_pcval.specs.Encode.{varint_bytes}

-- ends of ranges never fall
abbrev pub EndsNeverFall : Type 0
EndsNeverFall = (bytes : List ℕ) → IsNonDecreasingBy (λ range. range.1) (ranges bytes)

-- a table that is not empty ends itself: more bytes after it change nothing
abbrev pub TablesEndThemselves : Type 0
TablesEndThemselves = (table tail : List ℕ) → table ≢ [] → IsTable table → ranges (table ++ tail) ≡ ranges table

-- bytes with the same ranges have the same values
abbrev pub RangesDecideValues : Type 0
RangesDecideValues = (a b : List ℕ) → ranges a ≡ ranges b → (off : ℤ) → value_of a off ≡ value_of b off

-- there is no value from 2^32 on
abbrev pub NoneBeyond : Type 0
NoneBeyond = (bytes : List ℕ) (off : ℕ) → 2 ^ 32 ≤ off → value_of bytes (pos off) ≡ None

-- no spelling of a number is shorter than the one that is written
abbrev pub IsShortest : Type 0
IsShortest =
    (bytes : List ℕ) (number : Varint) → varint_of longest_varint number_limit bytes ≡ Some number
    → length (varint_bytes longest_varint number.value) ≤ number.size
