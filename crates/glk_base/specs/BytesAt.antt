-- Bytes at an offset of other bytes.
use Rattle.std.specs.Prelude.{◌≡◌, ◌≤◌, ◌++◌, ℕ, List, length, drop}

-- the part is in the bytes at this offset, and the rest follows it
pub record IsAt (bytes : List ℕ) (at : ℕ) (part : List ℕ) : Type 0 where
  pub inside : at ≤ length bytes
  pub rest : List ℕ
  pub is : drop at bytes ≡ part ++ rest
