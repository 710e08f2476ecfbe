-- Rules in an order, each broken at some offsets or at none. `Breaks rule offset` says that the rule of this number is
-- broken at this offset.
use Rattle.std.specs.Prelude.{◌<◌, ◌≤◌, ℕ}
use Rattle.glk_base.specs.Least.{IsLeast}

-- none of the rules up to n is broken anywhere
pub record IsIntact (Breaks : ℕ → ℕ → Type 0) (n : ℕ) : Type 0 where
  pub no : (rule offset : ℕ) → rule ≤ n → Breaks rule offset → ⊥

-- the broken rule of least number, and the least offset at which it is broken
pub record FirstBroken (Breaks : ℕ → ℕ → Type 0) (rule offset : ℕ) : Type 0 where
  pub before : (k place : ℕ) → k < rule → Breaks k place → ⊥
  pub here : IsLeast (Breaks rule) offset
