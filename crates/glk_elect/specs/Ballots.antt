-- Ids in groups, and their votes.
use Rattle.std.specs.Prelude.{ℕ, ◌<◌, List, get_or, Option, Some, None, ⊤}
use Rattle.glk_base.specs.Groups.{group_start}
use Rattle.glk_table.specs.Rule.{no_rank}
use Rattle.glk_elect.specs.declared.ballot.Vote.{Vote}

-- the first id of group g, where the groups have these numbers of ids
abbrev pub first_of : List ℕ → ℕ → ℕ
first_of groups g = group_start (λ n. n) groups g

-- the vote of an id, if it has one
abbrev pub vote_at : List (Option Vote) → ℕ → Option Vote
vote_at votes id = get_or votes id None

-- a vote's rank is that of a definition
abbrev pub IsRank : Option Vote → Type 0
IsRank (Some v) = v.rank < no_rank
IsRank None = ⊤
