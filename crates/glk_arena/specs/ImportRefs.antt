-- References to imports: the package, the object in it, and the entry of its block Autolib.
use Rattle.std.specs.Prelude.{◌≡◌, ◌<◌, ℕ, List, [], length, get_or, map, None, All}
use Rattle.std.specs.List.{range_with_len}
use Rattle.glk_obj.specs.Blocks.{count, autolib}
use Rattle.glk_arena.specs.declared.imports.ImportRef.{ImportRef}
use Rattle.glk_arena.specs.declared.imports.ImportEntry.{ImportEntry}
use Rattle.glk_arena.specs.World.{Package}
use Rattle.glk_arena.specs.Imports.{Import, import_at, imports_of}

-- a package that is nowhere
abbrev pub no_package : Package
no_package = record { path = []; file = []; header = None; objects = [] }

-- the object of a reference
abbrev pub object_at : List Package → ImportRef → List ℕ
object_at world i = get_or (get_or world i.owner no_package).objects i.object []

-- the import of a reference
abbrev pub import_by : List Package → ImportRef → Import
import_by world i = import_at (get_or world i.owner no_package).path (object_at world i) i.entry

-- there is an import at a reference
pub record IsImportRef (world : List Package) (i : ImportRef) : Type 0 where
  pub owner : i.owner < length world
  pub object : i.object < length (get_or world i.owner no_package).objects
  pub entry : i.entry < count (object_at world i) autolib

-- references to the imports of packages of the world
pub record AreImportsOf (world some : List Package) (refs : List ImportRef) : Type 0 where
  pub each : All (IsImportRef world) refs
  pub same : map (import_by world) refs ≡ imports_of some

-- an import, without where its parts are in memory
abbrev pub import_view : ImportEntry → Import
import_view i = record { importer = i.importer.now; imported = i.imported.now; wanted = i.wanted }

-- the reference of an entry
abbrev pub ref_at : ℕ → ℕ → ℕ → ImportRef
ref_at owner object entry = record { owner = owner; object = object; entry = entry }

-- the references of the entries of an object
abbrev pub refs_of_object : ℕ → ℕ → ℕ → List ImportRef
refs_of_object owner object entries = map (ref_at owner object) (range_with_len 0 entries)
