-- What the election of definitions is told of the rows.
use Rattle.std.specs.Prelude.{ℕ, [], ◌∷◌, ◌++◌, Bool, true, false, List, map, length, Option, Some, None, if◌then◌else◌}
use Rattle.glk_arena.specs.World.{objects_of}
use Rattle.glk_obj.specs.Records.{symbols}
use Rattle.glk_table.specs.Ranks.{rank_of}
use Rattle.glk_table.specs.declared.ranks.RankClass.{RankClass}
use Rattle.glk_table.specs.declared.ranks.RankClass.TheVariants.{Strong, Shared, Other}
use Rattle.glk_elect.specs.declared.ballot.Vote.{Vote}
use Rattle.glk_keys.specs.Programs.{Program}
use Rattle.glk_keys.specs.Rows.{Row, row_at, positions, own_symbols, is_definition, is_strong, is_shared}

-- the class by which a definition is chosen; a reference has none
unfoldable pub class_of : Row → Option RankClass
class_of row =
    if is_definition row then Some (if is_strong row then Strong else if is_shared row then Shared else Other) else None

-- the class of strong definitions
abbrev pub is_strong_class : RankClass → Bool
is_strong_class Strong = true
is_strong_class Shared = false
is_strong_class Other = false

-- the vote of row r, where it has this class and this size
abbrev pub vote_by : Option RankClass → ℕ → ℕ → Option Vote
vote_by (Some class) size r = Some (record { rank = rank_of class size r; strong = is_strong_class class })
vote_by None size r = None

-- the vote of a row: a definition votes for itself, by its rank
abbrev pub vote_of : Program → ℕ → Option Vote
vote_of p r = vote_by (class_of (row_at p r)) (row_at p r).symbol.size r

unfoldable pub votes_of : Program → List (Option Vote)
votes_of p = map (vote_of p) (positions p)

-- the rows in groups: those of each object, and the linker's own
abbrev pub groups_of : Program → List ℕ
groups_of p = map (λ b. symbols b) (objects_of p.world) ++ length (own_symbols p) ∷ []
