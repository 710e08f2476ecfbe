-- How keys and chosen definitions are kept: a number for each row.
use Rattle.std.specs.Prelude.{◌≡◌, ℕ, ◌-◌, ◌^◌, ◌<◌, ◌==◌, Bool, true, false, List, length, get_or, Option, Some, None, if◌then◌else◌}
use Rattle.glk_keys.specs.Definitions.{chosen_of}
use Rattle.glk_keys.specs.Interfaces.{iface_flag}
use Rattle.glk_keys.specs.Keys.{key_id, named, row_key, same_key}
use Rattle.glk_keys.specs.Programs.{Program}
use Rattle.glk_keys.specs.Rows.{row_at, row_count}
use Rattle.glk_merge.specs.Mergings.{IsKey, IsRow}

-- the key of each row
pub record AreKeyIds (p : Program) (keys : List ℕ) : Type 0 where
  pub long : length keys ≡ row_count p
  pub each : (r : ℕ) → r < row_count p → get_or keys r 0 ≡ key_id p r

-- what stands for no definition
abbrev pub no_definition : ℕ
no_definition = 2 ^ 32 - 1

abbrev pub choice_in : ℕ → Option ℕ
choice_in n = if n == no_definition then None else Some n

-- at each key its chosen definition
pub record AreChoices (p : Program) (chosen : List ℕ) : Type 0 where
  pub long : length chosen ≡ row_count p
  pub each : (k : ℕ) → IsKey p k → choice_in (get_or chosen k 0) ≡ chosen_of p k
  pub within : (k : ℕ) → IsKey p k → IsRow p (chosen_of p k)

-- at each key whether it is a type that is turned into an interface
pub record AreIfaceFlags (p : Program) (flags : List Bool) : Type 0 where
  pub long : length flags ≡ row_count p
  pub each : (k : ℕ) → k < row_count p → get_or flags k false ≡ iface_flag p k

-- all of these
pub record AreKeyTables (p : Program) (keys chosen : List ℕ) (flags : List Bool) : Type 0 where
  pub keys_are : AreKeyIds p keys
  pub chosen_are : AreChoices p chosen
  pub flags_are : AreIfaceFlags p flags

-- row r has this name and ABI as its key
pub record IsNamed (p : Program) (name : List ℕ) (abi r : ℕ) : Type 0 where
  pub row : r < row_count p
  pub same : same_key (named name abi) (row_key (row_at p r)) ≡ true
