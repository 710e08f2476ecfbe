-- How symbols are called in messages and tables.
use Rattle.std.specs.Prelude.{ℕ, ◌==◌, ◌&&◌, ◌||◌, not, nat_lt, Bool, List, [], ◌++◌, get_or, codes, decimal, Option, None, Some, if◌then◌else◌}
use Rattle.std.specs.Option.{unwrap_or}
use Rattle.glk_obj.specs.Blocks.{count, pkg_idx}
use Rattle.glk_obj.specs.Packages.{nil_package, none_package, hashed64_package, hashed_package, builtin_package, self_package}
use Rattle.glk_obj.specs.Records.{pkg_at}
use Rattle.glk_arena.specs.World.{paths_of}
use Rattle.glk_keys.specs.declared.target.Target.{Target}
use Rattle.glk_keys.specs.declared.target.Target.TheVariants as means
use Rattle.glk_keys.specs.Definitions.{chosen_of}
use Rattle.glk_keys.specs.Programs.{Program}
use Rattle.glk_keys.specs.Rows.{row_at, object_at}
use Rattle.glk_keys.specs.Targets.{package_of_entry}

-- the name of a key: that of its chosen definition, else that of the reference that the key is; empty where the symbol has no name
unfoldable pub key_name : Program → ℕ → List ℕ
key_name p k = (row_at p (unwrap_or (chosen_of p k) k)).symbol.name

-- the package number is none of an entry of PkgIdx
abbrev pub is_special : ℕ → Bool
is_special pkg =
    (pkg == nil_package) || (pkg == none_package) || (pkg == hashed64_package) || (pkg == hashed_package)
    || (pkg == builtin_package) || (pkg == self_package)

-- object n has an entry of PkgIdx with this number
abbrev pub is_entry : Program → ℕ → ℕ → Bool
is_entry p n pkg = not (is_special pkg) && nat_lt pkg (count (object_at p n) pkg_idx)

-- the path of the package that an entry means, where it is loaded, else its spelling there
abbrev pub path_or : Program → Option ℕ → List ℕ → List ℕ
path_or p None spelling = spelling
path_or p (Some q) spelling = get_or (paths_of p.world) q []

-- The name of the package of a missing target: `builtin` for the builtin list; for an entry of PkgIdx the path of its package. Of any
-- other number no package is known, and the name is empty.
unfoldable pub package_name : Program → ℕ → ℕ → List ℕ
package_name p n pkg =
    if pkg == builtin_package then codes "builtin"
    else if is_entry p n pkg then path_or p (package_of_entry p n pkg) (pkg_at (object_at p n) pkg)
    else []

-- the name of a missing target of object n: its package's name, `#`, and the index in decimal
abbrev pub missing_name : Program → ℕ → ℕ → ℕ → List ℕ
missing_name p n pkg index = package_name p n pkg ++ codes "#" ++ decimal index

-- the name of what a reference in object n means
unfoldable pub target_name : Program → ℕ → Target → List ℕ
target_name p n means.Nothing = []
target_name p n (means.Key key) = key_name p key.0
target_name p n (means.Missing pkg index) = missing_name p n pkg index
