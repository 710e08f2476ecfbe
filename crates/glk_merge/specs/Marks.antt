-- Marks of keys, one by one.
use Rattle.std.specs.Prelude.{ℕ, ◌==◌, ◌&&◌, Bool, false, Option, Some, None}
use Rattle.std.specs.List.{list_any, range_with_len}
use Rattle.glk_obj.specs.Flags.{is_used_in_iface}
use Rattle.glk_obj.specs.Records.{ref_flags_at}
use Rattle.glk_keys.specs.Definitions.{defines}
use Rattle.glk_keys.specs.Interfaces.{marks}
use Rattle.glk_keys.specs.Programs.{Program}
use Rattle.glk_keys.specs.Rows.{row_at, object_at}

-- k is the key, if there is one
abbrev pub is_at : Option ℕ → ℕ → Bool
is_at None k = false
is_at (Some key) k = key == k

-- some number below n passes the test
abbrev pub some_below : (ℕ → Bool) → ℕ → Bool
some_below test n = list_any test (range_with_len 0 n)

-- row r is a definition of key k, and says that the type is turned into an interface
abbrev pub row_marks : Program → ℕ → ℕ → Bool
row_marks p k r = defines p k r && is_used_in_iface (row_at p r).symbol

-- record i of the flags in object n marks key k
abbrev pub object_marks : Program → ℕ → ℕ → ℕ → Bool
object_marks p k n i = marks p k n (ref_flags_at (object_at p n) i)
