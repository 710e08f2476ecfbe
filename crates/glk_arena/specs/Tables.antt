-- The tables over loaded packages.
use Rattle.std.specs.Prelude.{◌≡◌, ◌<◌, ◌≤◌, ℕ, List, Option, length, get_or, All}
use Rattle.std.specs.List.{sum_by}
use Rattle.glk_base.specs.Groups.{group_of, group_start}
use Rattle.glk_package.specs.WidthRule.{first_width}
use Rattle.glk_arena.specs.World.{Package, paths_of, objects_of, first_header, package_symbols, file_bytes, package_limit}
use Rattle.glk_base.specs.Limits.{file_limit}
use Rattle.glk_arena.specs.Stored.{IsWhole}
use Rattle.glk_arena.specs.declared.packages.PackageTable.{PackageTable}
use Rattle.glk_arena.specs.PackageViews.{IsTableOf}

abbrev pub object_number : Package → ℕ
object_number p = length p.objects

-- the package of each object, the first object and the first row of each package, and the bytes and rows of all
pub record AreTables (world : List Package) (owners firsts rows : List ℕ) (bytes symbols : ℕ) : Type 0 where
  pub whole : All IsWhole world
  pub few : length world ≤ package_limit
  pub small : file_bytes world ≤ file_limit
  pub owned : length owners ≡ sum_by object_number world
  pub begun : length firsts ≡ length world
  pub counted : length rows ≡ length world
  pub owner : (n : ℕ) → n < sum_by object_number world → get_or owners n 0 ≡ group_of object_number world n
  pub first : (p : ℕ) → p < length world → get_or firsts p 0 ≡ group_start object_number world p
  pub row : (p : ℕ) → p < length world → get_or rows p 0 ≡ group_start package_symbols world p
  pub all_bytes : bytes ≡ file_bytes world
  pub all_symbols : symbols ≡ sum_by package_symbols world

-- all of it, with the packages by their paths, and what further objects have to have in common with those that are loaded: the
-- first header line, and the length of the first long hashes
pub record IsIndexed (world : List Package) (owners firsts rows : List ℕ) (bytes symbols : ℕ) (header : Option (List ℕ)) (width : Option ℕ) (table : PackageTable) : Type 0 where
  pub tables : AreTables world owners firsts rows bytes symbols
  pub header_is : header ≡ first_header world
  pub width_is : width ≡ first_width (objects_of world)
  pub paths : IsTableOf (paths_of world) table
