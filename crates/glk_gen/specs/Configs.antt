-- The import configuration of a world: a line for each package but the main one.
use Rattle.std.specs.Prelude.{ℕ, List, ◌++◌, flat_map, codes}
use Rattle.glk_gen.specs.Packages.{packages, package_path, package_file}

-- the line of package k
abbrev pub config_line : ℕ → List ℕ
config_line k = codes "packagefile " ++ package_path k ++ codes "=" ++ package_file k ++ codes "\n"

unfoldable pub importcfg_of : ℕ → List ℕ
importcfg_of n = flat_map config_line (packages n)
