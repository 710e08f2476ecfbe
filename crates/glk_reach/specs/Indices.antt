-- The indices of relocations by offset that are kept.
use Rattle.std.specs.Prelude.{◌≡◌, ◌<◌, ℕ, Some, None, nat_eq, IsTrue}
use Rattle.std.specs.HashMap.{HashMap, get}
use Rattle.glk_keys.specs.Programs.{Program}
use Rattle.glk_keys.specs.Rows.{row_count}
use Rattle.glk_readings.specs.Offsets.{IsIndexOf, IsRising, keeps_nothing}
use Rattle.glk_readings.specs.declared.offsets.OffsetIndex.{OffsetIndex}
use Rattle.glk_reach.specs.Chosen.{relocations_of}

-- each is one of its key's relocations; the offsets of the keys below n that have none rise
pub record AreIndices {S : Type 0} (p : Program) (n : ℕ) (indices : HashMap ℕ OffsetIndex S) : Type 0 where
  pub kept : (k : ℕ) (index : OffsetIndex) → get nat_eq indices k ≡ Some index → IsIndexOf (relocations_of p k) index
  pub others : (k : ℕ) → k < n → get nat_eq indices k ≡ None → IsRising (relocations_of p k)

-- those of all keys, with one for the keys whose offsets rise
pub record AreAllIndices {S : Type 0} (p : Program) (indices : HashMap ℕ OffsetIndex S) (rising : OffsetIndex) : Type 0 where
  pub complete : AreIndices p (row_count p) indices
  pub empty : IsTrue (keeps_nothing rising)
