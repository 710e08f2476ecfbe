-- Where the blocks of an object lie that keeps the first five rules.
use Rattle.std.specs.Prelude.{◌≡◌, ◌≢◌, ◌+◌, ◌*◌, ◌<◌, ◌≤◌, ℕ, List, length}
use Rattle.glk_obj.specs.Blocks.{header_length, hash, end, width_of, offset_of, count}

pub record HasLayout (b : List ℕ) : Type 0 where
  pub room : header_length ≤ length b
  pub low : (k : ℕ) → k ≤ end → header_length ≤ offset_of b k
  pub ordered : (k : ℕ) → k < end → offset_of b k ≤ offset_of b (k + 1)
  pub within : (k : ℕ) → k ≤ end → offset_of b k ≤ length b
  pub whole : (k : ℕ) → k < end → k ≢ hash → offset_of b (k + 1) ≡ offset_of b k + width_of k * count b k
