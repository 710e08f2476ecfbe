-- The kept symbols in order.
use Rattle.std.specs.Prelude.{ℕ, ◌==◌, ◌&&◌, Bool, false, List, Option, Some, None, if◌then◌else◌}
use Rattle.std.specs.List.{filter_map}
use Rattle.std.specs.Option.{option_map_or}
use Rattle.glk_keys.specs.Definitions.{chosen_of}
use Rattle.glk_keys.specs.Keys.{key_id}
use Rattle.glk_keys.specs.Programs.{Program}
use Rattle.glk_keys.specs.Rows.{positions}

-- row r is the chosen definition of its key
abbrev pub is_chosen : Program → ℕ → Bool
is_chosen p r = option_map_or (λ q. q == r) (chosen_of p (key_id p r)) false

-- the key of row r, where the row is its chosen definition and the key is kept
unfoldable pub kept_at : Program → (kept : ℕ → Bool) → ℕ → Option ℕ
kept_at p kept r = if is_chosen p r && kept (key_id p r) then Some (key_id p r) else None

-- The kept keys by the load positions of their chosen definitions. The rows of made names are behind those of all objects, so these
-- come last, in the order of their table.
unfoldable pub kept_list : Program → (kept : ℕ → Bool) → List ℕ
kept_list p kept = filter_map (kept_at p kept) (positions p)
