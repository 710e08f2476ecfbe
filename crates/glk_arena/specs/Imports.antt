-- What packages import, and the fingerprints that say for which state of an import a package was compiled.
use Rattle.std.specs.Prelude.{◌&&◌, not, ℕ, Bool, List, ◌++◌, map, replicate, codes, Option}
use Rattle.std.specs.List.{find, flat_map, list_any, range_with_len}
use Rattle.std.specs.Option.{unwrap_or, option_map}
use Rattle.std.specs.Str.{bytes_eq}
use Rattle.glk_obj.specs.Blocks.{count, autolib}
use Rattle.glk_obj.specs.Records.{autolib_at, fingerprint}
use Rattle.glk_arena.specs.World.{Package, paths_of}

-- an import: who imports, what, and the fingerprint that it had when the importer was compiled
pub record Import : Type 0 where
  pub importer : List ℕ
  pub imported : List ℕ
  pub wanted : List ℕ

-- entry k of an object's block Autolib, as an import of the package with this path
abbrev pub import_at : List ℕ → List ℕ → ℕ → Import
import_at path object k = record { importer = path; imported = (autolib_at object k).path; wanted = (autolib_at object k).fingerprint }

-- the imports of an object, in the order of its entries
unfoldable pub object_imports : List ℕ → List ℕ → List Import
object_imports path object = map (import_at path object) (range_with_len 0 (count object autolib))

-- the imports of a package, object by object
unfoldable pub package_imports : Package → List Import
package_imports p = flat_map (object_imports p.path) p.objects

-- the imports of packages, one after the other
unfoldable pub imports_of : List Package → List Import
imports_of packages = flat_map package_imports packages

-- a path is among these
abbrev pub is_among : List (List ℕ) → List ℕ → Bool
is_among paths path = list_any (bytes_eq path) paths

-- the package that the compiler itself has: it is in no file
abbrev pub unsafe_package : List ℕ
unsafe_package = codes "unsafe"

-- the fingerprint of a package that has none
abbrev pub no_fingerprint : List ℕ
no_fingerprint = replicate 8 0

abbrev pub is_set : List ℕ → Bool
is_set print = not (bytes_eq print no_fingerprint)

-- a package's fingerprint: the first among its objects that is not zero, else zero
unfoldable pub package_fingerprint : Package → List ℕ
package_fingerprint p = unwrap_or (find is_set (map fingerprint p.objects)) no_fingerprint

-- the fingerprint of the first of these packages that has this path; zero where none has
unfoldable pub fingerprint_in : List Package → List ℕ → List ℕ
fingerprint_in world path = unwrap_or (option_map package_fingerprint (find (λ p. bytes_eq path p.path) world)) no_fingerprint

-- the import wants another fingerprint than the package has, and neither is zero
unfoldable pub is_unequal : List Package → Import → Bool
is_unequal world i =
    let found = fingerprint_in world i.imported in
    is_set i.wanted && (is_set found && not (bytes_eq i.wanted found))

-- the import is compared once the package is loaded, and not again: it was compared before where both its packages are among
-- the earlier ones
unfoldable pub is_compared : List (List ℕ) → List (List ℕ) → Import → Bool
is_compared earlier loaded i = is_among loaded i.imported && not (is_among earlier i.importer && is_among earlier i.imported)

-- the first import, in load order, that is compared with this wave and is unequal
unfoldable pub first_unequal : List Package → List Package → Option Import
first_unequal earlier wave =
    let world = earlier ++ wave in
    find (λ i. is_compared (paths_of earlier) (paths_of world) i && is_unequal world i) (imports_of world)
