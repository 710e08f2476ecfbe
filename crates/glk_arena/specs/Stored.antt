-- What a loaded package keeps of its objects: where their data are in its file, which it owns.
use Rattle.std.specs.Prelude.{◌≡◌, ◌≤◌, ℕ, List, map, length, slice_range, All}
use Rattle.std.specs.List.{find, sum_by}
use Rattle.std.specs.Option.{unwrap_or}
use Rattle.glk_obj.specs.Object.{IsObject}
use Rattle.glk_obj.specs.Records.{fingerprint}
use Rattle.glk_obj.specs.Views.{IsShapeOf}
use Rattle.glk_package.specs.ObjectEntry.{ObjectEntry}
use Rattle.glk_package.specs.HeaderRule.{first_line}
use Rattle.glk_arena.specs.declared.stored.StoredObject.{StoredObject}
use Rattle.glk_arena.specs.declared.stored.StoredObjects.{StoredObjects}
use Rattle.glk_arena.specs.World.{Package}
use Rattle.glk_arena.specs.Imports.{is_set, no_fingerprint}

-- the data are inside the file, and the shape is theirs
pub record IsStored (file : List ℕ) (stored : StoredObject) : Type 0 where
  pub order : stored.at ≤ stored.end
  pub inside : stored.end ≤ length file
  pub fits : IsShapeOf (slice_range file stored.at stored.end) stored.shape

-- the data of a stored object
abbrev pub stored_data : List ℕ → StoredObject → List ℕ
stored_data file stored = slice_range file stored.at stored.end

-- the stored objects of a file, which have no more bytes together than the file
pub record AreStored (file : List ℕ) (objects : List StoredObject) : Type 0 where
  pub each : All (IsStored file) objects
  pub fit : sum_by length (map (stored_data file) objects) ≤ length file

-- what is stored of these objects of a file
pub record Stores (file : List ℕ) (objects : List ObjectEntry) (stored : StoredObjects) : Type 0 where
  pub header_is : stored.header ≡ first_line objects
  pub data_are : map (stored_data file) stored.list.items ≡ map (λ o. o.goobj) objects

-- a package whose objects break no rule, and have no more bytes together than its file
pub record IsWhole (p : Package) : Type 0 where
  pub objects : All IsObject p.objects
  pub fit : sum_by length p.objects ≤ length p.file

-- the first fingerprint of these objects that is not zero, else zero
unfoldable pub first_set : List (List ℕ) → List ℕ
first_set objects = unwrap_or (find is_set (map fingerprint objects)) no_fingerprint

-- the same with the fingerprint of the package
pub record HasFingerprint (file : List ℕ) (objects : List StoredObject) (print : List ℕ) : Type 0 where
  pub held : AreStored file objects
  pub print_is : print ≡ first_set (map (stored_data file) objects)
