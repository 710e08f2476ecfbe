-- What sources and sinks answer.
use Rattle.std.specs.Prelude.{◌≡◌, ℕ, ◌≤◌, List, [], ◌∷◌, ◌++◌, Option, Result, OnOk, OnErr, take, length}
use Rattle.std.specs.Borrow.{Bor}
use Rattle.std.specs.Io.KnownBytes.{Appends}
use Rattle.glk_io.specs.Counts.{Rose}

-- A count of faults never falls. A failure comes only where it rose, and any other answer only where it did not.
pub record HasCause {T E : Type 0} (before now : ℕ) (result : Result T E) : Type 0 where
  pub later : before ≤ now
  pub failed : OnErr result (Rose before now)
  pub others : OnOk result (now ≡ before)

-- known bytes grow by a prefix of these
abbrev pub AppendsPrefix : Option (List ℕ) → Option (List ℕ) → List ℕ → Type 0
AppendsPrefix before now bytes =
    (kept : ℕ) × (kept ≤ length bytes) × Appends before now (take kept bytes)

-- pieces, one after the other
abbrev pub joined : List (Bor (List ℕ)) → List ℕ
joined [] = []
joined (piece ∷ more) = piece.now ++ joined more
