-- The least number at which something is so.
use Rattle.std.specs.Prelude.{◌≡◌, ◌<◌, ◌≤◌, ℕ, Option, Some, None}

-- no number has the property
abbrev pub Nowhere : (ℕ → Type 0) → Type 0
Nowhere P = (n : ℕ) → P n → ⊥

pub record IsLeast (P : ℕ → Type 0) (n : ℕ) : Type 0 where
  pub holds : P n
  pub least : (k : ℕ) → P k → n ≤ k

-- the least number with the property, or none where no number has it
abbrev pub LeastOf : (ℕ → Type 0) → Option ℕ → Type 0
LeastOf P None = Nowhere P
LeastOf P (Some n) = IsLeast P n

-- one of the n records at these offsets is bad, and this is its offset
pub record BadRecord (n : ℕ) (offset_of : ℕ → ℕ) (Bad : ℕ → Type 0) (offset : ℕ) : Type 0 where
  pub index : ℕ
  pub inside : index < n
  pub at : offset ≡ offset_of index
  pub bad : Bad index

-- the fault is in one of these groups of records
pub record InSomeGroup (In : ℕ → Type 0) (Fault : ℕ → ℕ → Type 0) (offset : ℕ) : Type 0 where
  pub group : ℕ
  pub among : In group
  pub fault : Fault group offset
