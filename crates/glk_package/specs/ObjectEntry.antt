-- An object of a package file, as contracts see it.
use Rattle.std.specs.Prelude.{ℕ, List, [], ◌∷◌, ◌+◌, length, Option}
use Rattle.glk_base.specs.BytesAt.{IsAt}

-- the number and the name of its member (a bare object has no name), its line, its data, and their offset in the file
pub record ObjectEntry : Type 0 where
  pub member : ℕ
  pub name : Option (List ℕ)
  pub line : List ℕ
  pub goobj : List ℕ
  pub at : ℕ

-- the object's data are the bytes of the file at its offset
abbrev pub IsFoundIn : List ℕ → ObjectEntry → Type 0
IsFoundIn file object = IsAt file object.at object.goobj

-- the number of bytes that the data of these objects have together
unfoldable pub data_bytes : List ObjectEntry → ℕ
data_bytes [] = 0
data_bytes (object ∷ later) = length object.goobj + data_bytes later
