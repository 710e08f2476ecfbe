-- The least multiple from a bound on.
use Rattle.std.proofs.Common.{◌+◌, ◌-◌, ◌*◌, ◌/◌, ◌<◌, ℕ, arith}
use Rattle.glk_base.specs.Multiples.{IsLeastMultiple}

pub multiple_is_least : (n bound : ℕ) → 0 < n → IsLeastMultiple n bound ((bound + (n - 1)) / n * n)
multiple_is_least n bound pos = record {
  multiple = grind arith;
  above = grind arith;
  least = grind arith;
}
