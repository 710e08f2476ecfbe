-- How far a walk through a file has come.
use Rattle.std.specs.Prelude.{ℕ, List}

-- the file's bytes, and the offset of the next header
pub record Walk : Type 0 where
  pub bytes : List ℕ
  pub at : ℕ
