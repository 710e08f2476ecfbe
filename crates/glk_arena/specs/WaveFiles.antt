-- What is known of a wave's files whose objects are checked before they are asked for in order.
use Rattle.std.specs.Prelude.{◌≤◌, ℕ, List, Option, map, length, IfSome}
use Rattle.glk_base.specs.Limits.{file_limit}
use Rattle.glk_package.specs.HeaderRule.{Allows}
use Rattle.glk_package.specs.WidthRule.{first_width, FitsWidth}
use Rattle.glk_package.specs.ObjectRules.{ObjectRules, uniform_rules}
use Rattle.glk_arena.specs.declared.stored.StoredObjects.{StoredObjects}
use Rattle.glk_arena.specs.Stored.{AreStored, stored_data}
use Rattle.glk_arena.specs.LoadParts.{HoldsStored}

-- what is stored of the objects of a file, which by themselves have one line and one length of long hashes
pub record IsFoundUniform (file : List ℕ) (found : StoredObjects) : Type 0 where
  pub holds : HoldsStored uniform_rules file found
  pub stored : AreStored file found.list.items

-- a file that a wave may have, with what is known of its objects
pub record IsWaveFile (file : List ℕ) (found : Option StoredObjects) : Type 0 where
  pub short : length file ≤ file_limit
  pub known : IfSome found (IsFoundUniform file)

-- The first line and the first length of long hashes of these objects are what the rules ask.
pub record MeetsRules (rules : ObjectRules) (file : List ℕ) (found : StoredObjects) : Type 0 where
  pub line : IfSome found.header (Allows rules.headers)
  pub width : FitsWidth rules.widths (first_width (map (stored_data file) found.list.items))
