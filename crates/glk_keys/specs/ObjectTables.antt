-- How the objects of a link are kept.
use Rattle.std.specs.Prelude.{◌≡◌, ℕ, ◌-◌, ◌<◌, ◌≤◌, ◌^◌, List, [], length, map, get_or}
use Rattle.std.specs.List.{sum_by}
use Rattle.glk_base.specs.Groups.{group_of, group_start}
use Rattle.glk_obj.specs.Object.{IsObject}
use Rattle.glk_obj.specs.Records.{symbols}
use Rattle.glk_keys.specs.Blocks.{starts_of}
use Rattle.glk_arena.specs.World.{objects_of}
use Rattle.glk_keys.specs.Programs.{Program}
use Rattle.glk_keys.specs.Rows.{row_count, row_limit}
use Rattle.glk_keys.specs.declared.blocks.BlockStarts.{BlockStarts}

-- each object breaks no rule; where the blocks of symbols of each begin, the first row of each object, and the number of each row's object
pub record AreTables (objects : List (List ℕ)) (blocks : List BlockStarts) (firsts owners : List ℕ) : Type 0 where
  pub checked : (n : ℕ) → n < length objects → IsObject (get_or objects n [])
  pub blocks_are : blocks ≡ map starts_of objects
  pub begun : length firsts ≡ length objects
  pub first : (n : ℕ) → n < length objects → get_or firsts n 0 ≡ group_start symbols objects n
  pub owned : length owners ≡ sum_by symbols objects
  pub owner : (r : ℕ) → r < sum_by symbols objects → get_or owners r 0 ≡ group_of symbols objects r

-- The same, of no more rows than a link may have. There is a number for one object more, to which the linker's own rows belong.
pub record AreIndexed (objects : List (List ℕ)) (blocks : List BlockStarts) (firsts owners : List ℕ) : Type 0 where
  pub tables : AreTables objects blocks firsts owners
  pub small : sum_by symbols objects ≤ row_limit
  pub few : length objects < 2 ^ 32 - 1

-- the objects are those of a program, which has no more rows than a link may have
pub record AreOfProgram (p : Program) (objects : List (List ℕ)) : Type 0 where
  pub objects_are : objects ≡ objects_of p.world
  pub small : row_count p ≤ row_limit
