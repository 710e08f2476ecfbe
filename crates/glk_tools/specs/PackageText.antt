-- The text of a package file.
use Rattle.std.specs.Prelude.{◌≡◌, ℕ, List, [], ◌∷◌, ◌++◌, codes, Option, Some, None, Result, Ok, Err}
use Rattle.glk_package.specs.declared.refusal.PackageBad.{PackageBad}
use Rattle.glk_package.specs.ObjectRules.{any_rules}
use Rattle.glk_package.specs.ObjectEntry.{ObjectEntry}
use Rattle.glk_package.specs.Package.{PackageFile}
use Rattle.glk_objdesc.specs.Described.{description_of}
use Rattle.glk_objtext.specs.Text.{text_of}

-- how an object's member is named: a bare object has none
abbrev pub member_name : Option (List ℕ) → List ℕ
member_name None = codes "-"
member_name (Some name) = name

-- an object: a comment with the name of its member, and its canonical text
unfoldable pub section_of : ObjectEntry → List ℕ
section_of object = codes "# member " ++ member_name object.name ++ codes "\n" ++ text_of (description_of object.goobj)

-- the objects of a file, one after the other
unfoldable pub sections_of : List ObjectEntry → List ℕ
sections_of [] = []
sections_of (object ∷ later) = section_of object ++ sections_of later

-- what a file's text is, where all its objects are whole, each standing for itself; else its first fault
abbrev pub IsPackageText : List ℕ → Result (List ℕ) PackageBad → Type 0
IsPackageText file (Ok text) = (objects : List ObjectEntry) × PackageFile any_rules file (Ok objects) × (text ≡ sections_of objects)
IsPackageText file (Err broken) = PackageFile any_rules file (Err broken)

-- a file has one text, or one first fault
abbrev pub IsOneText : Type 0
IsOneText = (file : List ℕ) (one other : Result (List ℕ) PackageBad) → IsPackageText file one → IsPackageText file other → one ≡ other
