-- Least multiples.
use Rattle.std.specs.Prelude.{◌≡◌, ◌<◌, ◌≤◌, ◌+◌, ◌%◌, ℕ}

-- a is the least multiple of n that is not below the bound
pub record IsLeastMultiple (n bound a : ℕ) : Type 0 where
  pub multiple : a % n ≡ 0
  pub above : bound ≤ a
  pub least : a < bound + n
