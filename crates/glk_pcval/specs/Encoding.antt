-- What the writer keeps from step to step.
use Rattle.std.specs.Prelude.{ℕ, ◌≡◌, ◌≢◌, ◌<◌, List, [], ◌∷◌, ◌++◌, length, Some, true, false, ◌⊎◌, ℤ, ◌-ℤ◌, FitsSigned}
use Rattle.std.specs.Int.{w32}
use Rattle.glk_base.specs.Varint.{varint_of}
use Rattle.glk_pcval.specs.declared.step.State.{State}
use Rattle.glk_pcval.specs.Step.{number_limit}
use Rattle.glk_pcval.specs.Table.{ranges_from, fault_from, start, state_after}
use Rattle.glk_pcval.specs.Encode.{varint_bytes, step_bytes}

-- a range may follow what has been read
abbrev pub MayFollow : State → State → Type 0
MayFollow from to =
    FitsSigned w32 (to.value -ℤ from.value) × (from.end < to.end)
    × ((from.first ≡ true) ⊎ (from.value ≢ to.value)) × (to.first ≡ false)

-- each of these ranges may
abbrev pub Follows : State → List (ℤ × ℕ) → Type 0
Follows from [] = Unit {0}
Follows from (range ∷ ranges) = MayFollow from (state_after range) × Follows (state_after range) ranges

-- these bytes are read as the number, whatever follows them
pub record Spells (most limit : ℕ) (bytes : List ℕ) (number : ℕ) : Type 0 where
  pub some : 0 < length bytes
  pub reads : (rest : List ℕ) → varint_of most limit (bytes ++ rest) ≡ Some (record { value = number; size = length bytes })

-- the number's shortest spelling was added at the end, and is read as the number
pub record Appends (before now : List ℕ) (most number : ℕ) : Type 0 where
  pub added : now ≡ before ++ varint_bytes most number
  pub spells : Spells most number_limit (varint_bytes most number) number

-- what is read after these bytes goes on from the state, after the ranges done
pub record IsPrefixOf (out : List ℕ) (from : State) (done : List (ℤ × ℕ)) : Type 0 where
  pub ranges : (tail : List ℕ) → ranges_from 0 start (out ++ tail) ≡ done ++ ranges_from 0 from tail
  pub fault : (tail : List ℕ) → fault_from 0 start 0 (out ++ tail) ≡ fault_from 0 from (length out) tail

-- one range more was added
pub record AddsRange (before now : List ℕ) (from to : State) : Type 0 where
  pub added : now ≡ before ++ step_bytes from (to.value, to.end)
  pub more : (done : List (ℤ × ℕ)) → IsPrefixOf before from done → IsPrefixOf now to (done ++ (to.value, to.end) ∷ [])
