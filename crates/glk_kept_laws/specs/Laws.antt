-- What holds of every program: laws of the definitions.
use Rattle.std.specs.Prelude.{◌≡◌, ◌<◌, ℕ, Bool, List, map, None, Some, IsTrue, unwrap_or}
use Rattle.std.specs.List.{Contains}
use Rattle.std.specs.List.Sorted.{IsStrictlyIncreasing}
use Rattle.glk_arena.specs.World.{symbol_count}
use Rattle.glk_keys.specs.Definitions.{made_name_of}
use Rattle.glk_keys.specs.Programs.{Program}
use Rattle.glk_keys.specs.Rows.{made_row}
use Rattle.glk_reach.specs.Chosen.{chosen_row, is_defined}
use Rattle.glk_reach.specs.KeptLists.{kept_list}

-- the load position of a key: that of its chosen definition
abbrev pub position_of : Program → ℕ → ℕ
position_of p k = unwrap_or (chosen_row p k) 0

-- the list has the keys that are kept and have a definition, and no others, by their load positions
pub record IsInOrder (p : Program) (kept : ℕ → Bool) (list : List ℕ) : Type 0 where
  pub defined : (k : ℕ) → Contains list k → IsTrue (is_defined p k)
  pub only : (k : ℕ) → Contains list k → IsTrue (kept k)
  pub all : (k : ℕ) → IsTrue (is_defined p k) → IsTrue (kept k) → Contains list k
  pub ordered : IsStrictlyIncreasing (map (position_of p) list)

-- and so has the kept list
abbrev pub AreKeptListsInOrder : Type 0
AreKeptListsInOrder = (p : Program) (kept : ℕ → Bool) → IsInOrder p kept (kept_list p kept)

-- the load positions of symbols of objects are before those of made names, which follow the order of their table
pub record AreMadeNamesLast (p : Program) : Type 0 where
  pub objects : (k : ℕ) → IsTrue (is_defined p k) → made_name_of p k ≡ None → position_of p k < symbol_count p.world
  pub made : (k n : ℕ) → IsTrue (is_defined p k) → made_name_of p k ≡ Some n → position_of p k ≡ made_row p n

abbrev pub AreMadeNamesAlwaysLast : Type 0
AreMadeNamesAlwaysLast = (p : Program) → AreMadeNamesLast p
