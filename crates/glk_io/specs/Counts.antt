-- Counts of faults. A count is kept in 64 bits, and stays at their end.
use Rattle.std.specs.Prelude.{ℕ, ◌+◌, ◌-◌, ◌^◌, ◌≤◌, min, Result, Ok, Err}

-- a count after one more, which stays at the end of its type
abbrev pub next_count : ℕ → ℕ
next_count count = min (count + 1) (2 ^ 64 - 1)

-- the count rose, or is at the end of its type
abbrev pub Rose : ℕ → ℕ → Type 0
Rose before now = min (before + 1) (2 ^ 64 - 1) ≤ now

-- a count after a call: one more exactly where the call failed
abbrev pub count_after_call : {T E : Type 0} → ℕ → Result T E → ℕ
count_after_call count (Ok _) = count
count_after_call count (Err _) = next_count count
