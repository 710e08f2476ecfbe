-- What a merge gives.
use Rattle.std.specs.Prelude.{◌≡◌, ℕ, ◌<◌, Option, Some, None, true, ⊤}
use Rattle.glk_elect.specs.Polls.{Poll, IsPolled}
use Rattle.glk_keys.specs.KeyNumbers.{keys_of}
use Rattle.glk_keys.specs.Keys.{key_id}
use Rattle.glk_keys.specs.Programs.{Program}
use Rattle.glk_keys.specs.Rows.{row_at, row_count, is_definition}
use Rattle.glk_keys.specs.Votes.{votes_of}
use Rattle.glk_keys.specs.declared.target.Target.{Target}
use Rattle.glk_keys.specs.declared.target.Target.TheVariants as target

-- what is linked, and the closed table with the place of each row
pub record Merging : Type 0 where
  pub program : Program
  pub poll : Poll

-- The table is of exactly these rows: it has the key of each row, the rank of each definition, and each strong definition,
-- at the place of the row, and nothing else.
abbrev pub IsPollOf : Program → Poll → Type 0
IsPollOf p poll = IsPolled (keys_of p) (votes_of p) poll

-- k is the number of a key: of the rows that have the key, the least
pub record IsKey (p : Program) (k : ℕ) : Type 0 where
  pub row : k < row_count p
  pub own : key_id p k ≡ k

-- row r is a definition of an object
pub record IsDefinitionRow (p : Program) (r : ℕ) : Type 0 where
  pub row : r < row_count p
  pub definition : is_definition (row_at p r) ≡ true

-- where there is a row, it is one of the program's
abbrev pub IsRow : Program → Option ℕ → Type 0
IsRow p None = ⊤
IsRow p (Some r) = r < row_count p

-- where there is a key, it is one of the program's
abbrev pub IsSomeKey : Program → Option ℕ → Type 0
IsSomeKey p None = ⊤
IsSomeKey p (Some k) = IsKey p k

-- where a symbol is meant that is there, it is a key
abbrev pub IsTargetKey : Program → Target → Type 0
IsTargetKey p target.Nothing = ⊤
IsTargetKey p (target.Key k) = IsKey p k.0
IsTargetKey p (target.Missing pkg index) = ⊤
