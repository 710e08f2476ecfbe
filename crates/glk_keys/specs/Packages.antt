-- The packages of rows.
use Rattle.std.specs.Prelude.{ℕ, List, [], get_or}
use Rattle.glk_arena.specs.World.{package_of_object, paths_of}
use Rattle.glk_keys.specs.Programs.{Program}

-- the path of the package that holds object n
unfoldable pub package_path : Program → ℕ → List ℕ
package_path p n = get_or (paths_of p.world) (package_of_object p.world n) []
