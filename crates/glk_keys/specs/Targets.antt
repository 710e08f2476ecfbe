-- What a reference in an object means.
use Rattle.std.specs.Prelude.{ℕ, ◌+◌, ◌<◌, ◌==◌, nat_lt, length, Option, None, Some, ⊤, if◌then◌else◌}
use Rattle.glk_obj.specs.Blocks.{count, pkg_idx}
use Rattle.glk_obj.specs.Packages.{nil_package, none_package, hashed64_package, hashed_package, builtin_package, self_package}
use Rattle.glk_obj.specs.Records.{SymbolRef, pkg_at}
use Rattle.glk_arena.specs.World.{paths_of, first_object, object_count}
use Rattle.glk_arena.specs.Packages.{find_package}
use Rattle.glk_keys.specs.declared.target.Referent.{Referent}
use Rattle.glk_keys.specs.declared.target.Referent.TheVariants as means
use Rattle.glk_keys.specs.declared.target.Target.{Target}
use Rattle.glk_keys.specs.declared.target.Target.TheVariants as target
use Rattle.glk_keys.specs.Keys.{key_id}
use Rattle.glk_keys.specs.LocalIndices.{SymbolRange, symdef_symbols, hashed64_symbols, hashed_symbols, unpackaged_symbols}
use Rattle.glk_keys.specs.Programs.{Program}
use Rattle.glk_keys.specs.Rows.{object_at, row_count, row_in_object, builtin_row}

-- Which row is meant.

abbrev pub row : ℕ → Referent
row r = means.Row (record { 0 = r })

-- an index among some symbols of object n; missing where the index is past them
unfoldable pub row_among : Program → ℕ → SymbolRange → ℕ → Referent
row_among p n symbols index =
    if nat_lt index symbols.size then row (row_in_object p n (symbols.first + index)) else means.Missing

-- an index in the builtin list
unfoldable pub builtin_referent : Program → ℕ → Referent
builtin_referent p index = if nat_lt index (length p.builtins) then row (builtin_row p index) else means.Missing

-- an index in a package: a symbol of Symdef of its first object; missing where the package is not loaded or has no object
abbrev pub package_referent : Program → Option ℕ → ℕ → Referent
package_referent p None index = means.Missing
package_referent p (Some q) index =
    if nat_lt 0 (object_count p.world q)
    then row_among p (first_object p.world q) (symdef_symbols (object_at p (first_object p.world q))) index
    else means.Missing

-- the number of the loaded package that an entry of PkgIdx of object n means, if there is such an entry and such a package
unfoldable pub package_of_entry : Program → ℕ → ℕ → Option ℕ
package_of_entry p n pkg =
    if nat_lt pkg (count (object_at p n) pkg_idx) then find_package (paths_of p.world) (pkg_at (object_at p n) pkg) else None

-- The row that a reference in object n means: nothing, the row of a symbol, or a symbol that is missing. Of the package numbers none counts
-- through Nonpkgdef and then Nonpkgref of the object, hashed64, hashed and self through their blocks of the object, and builtin through
-- the builtin list; any other is an entry of PkgIdx. Number 0 with index 0 is nothing, and with another index is missing.
unfoldable pub referent_of : Program → ℕ → SymbolRef → Referent
referent_of p n ref =
    if ref.pkg == nil_package then (if ref.sym == 0 then means.Nothing else means.Missing)
    else if ref.pkg == none_package then row_among p n (unpackaged_symbols (object_at p n)) ref.sym
    else if ref.pkg == hashed64_package then row_among p n (hashed64_symbols (object_at p n)) ref.sym
    else if ref.pkg == hashed_package then row_among p n (hashed_symbols (object_at p n)) ref.sym
    else if ref.pkg == self_package then row_among p n (symdef_symbols (object_at p n)) ref.sym
    else if ref.pkg == builtin_package then builtin_referent p ref.sym
    else package_referent p (package_of_entry p n ref.pkg) ref.sym

-- where it is a row, it is one of the program's
abbrev pub IsRowOf : Program → Referent → Type 0
IsRowOf p means.Nothing = ⊤
IsRowOf p (means.Row r) = r.0 < row_count p
IsRowOf p means.Missing = ⊤

-- Which symbol is meant: the key of the row; a missing one is told by its package number and its index.

abbrev pub target_by : Program → SymbolRef → Referent → Target
target_by p ref means.Nothing = target.Nothing
target_by p ref (means.Row r) = target.Key (record { 0 = key_id p r.0 })
target_by p ref means.Missing = target.Missing ref.pkg ref.sym

-- what a reference in object n means
unfoldable pub target_of : Program → ℕ → SymbolRef → Target
target_of p n ref = target_by p ref (referent_of p n ref)
