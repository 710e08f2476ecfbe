-- Keys with two strong definitions or more.
use Rattle.std.specs.Prelude.{ℕ, ◌==◌, List, [], ◌∷◌, Option, None, Some, is_some, if◌then◌else◌}
use Rattle.std.specs.List.{filter_map}
use Rattle.glk_keys.specs.Definitions.{first_of, strong_definitions, made_name_of}
use Rattle.glk_keys.specs.Keys.{key_id}
use Rattle.glk_keys.specs.Programs.{Program}
use Rattle.glk_keys.specs.Rows.{positions}

-- a clash: the least and the greatest of the strong definitions of one key
pub record Clash : Type 0 where
  pub first : ℕ
  pub second : ℕ

-- the last of a list that begins with r
abbrev pub last_from : ℕ → List ℕ → ℕ
last_from r [] = r
last_from r (q ∷ later) = last_from q later

-- the clash of strong definitions by load position
abbrev pub clash_among : List ℕ → Option Clash
clash_among [] = None
clash_among (r ∷ []) = None
clash_among (r ∷ q ∷ later) = Some (record { first = r; second = last_from q later })

-- the clash of a key; a made name has none, since its definitions in objects are passed over
unfoldable pub clash_of : Program → ℕ → Option Clash
clash_of p k = if is_some (made_name_of p k) then None else clash_among (strong_definitions p k)

-- the clash whose first definition is row r
abbrev pub begins_at : ℕ → Option Clash → Option Clash
begins_at r None = None
begins_at r (Some clash) = if clash.first == r then Some clash else None

unfoldable pub clash_at : Program → ℕ → Option Clash
clash_at p r = begins_at r (clash_of p (key_id p r))

-- Of all clashes the one with the least first definition.
unfoldable pub first_clash : Program → Option Clash
first_clash p = first_of (filter_map (clash_at p) (positions p))
