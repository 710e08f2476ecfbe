-- A row for each fact that calls methods.
use Rattle.std.specs.Prelude.{◌≡◌, ◌⊎◌, ℕ, List, [], ◌∷◌, ◌++◌, Some, slice_get}
use Rattle.std.specs.List.{Contains}
use Rattle.glk_closure.specs.Reach.{Fact}

-- row r is that of this fact
abbrev pub Stands : List Fact → ℕ → Fact → Type 0
Stands calls r f = slice_get calls r ≡ Some f

-- the facts grow at most by this one, whose row is r
pub record Numbers (old new : List Fact) (f : Fact) (r : ℕ) : Type 0 where
  pub stands : Stands new r f
  pub cases : (new ≡ old) ⊎ ((new ≡ old ++ f ∷ []) × (Contains old f → ⊥))
