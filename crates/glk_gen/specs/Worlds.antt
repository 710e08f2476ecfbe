-- A world of n functions: its import configuration, and its package files by their paths.
use Rattle.std.specs.Prelude.{ℕ, ◌^◌, List, ◌∷◌, map}
use Rattle.glk_ar.specs.Written.{archive_with}
use Rattle.glk_objdesc.specs.declared.desc.ObjDesc.{ObjDesc}
use Rattle.glk_objdesc.specs.Canonical.{object_bytes}
use Rattle.glk_gen.specs.declared.world.World.{World}
use Rattle.glk_gen.specs.Packages.{packages, package_file, main_file}
use Rattle.glk_gen.specs.Configs.{importcfg_of}
use Rattle.glk_gen.specs.Objects.{package_object, main_object}

-- the package file of an object: an archive whose one member is its canonical bytes
abbrev pub archive_of : ObjDesc → List ℕ
archive_of object = archive_with (object_bytes object)

abbrev pub main_archive : ℕ → List ℕ × List ℕ
main_archive n = (main_file, archive_of (main_object n))

abbrev pub package_archive : ℕ → ℕ → ℕ → List ℕ × List ℕ
package_archive seed n k = (package_file k, archive_of (package_object seed n k))

unfoldable pub archives_of : ℕ → ℕ → List (List ℕ × List ℕ)
archives_of seed n = main_archive n ∷ map (package_archive seed n) (packages n)

-- the world
abbrev pub world_of : ℕ → ℕ → World
world_of seed n = record { importcfg = importcfg_of n; archives = archives_of seed n }

-- no object of a world is longer
abbrev pub object_bound : ℕ
object_bound = 2 ^ 20
