-- Numbers in the order of their first use.
use Rattle.std.specs.Prelude.{ℕ, ◌==◌, List, [], ◌∷◌, ◌++◌, Bool, if◌then◌else◌}
use Rattle.std.specs.List.{list_any}

-- whether a number is in a list
abbrev pub is_used : List ℕ → ℕ → Bool
is_used used p = list_any (λ q. q == p) used

-- a number comes to a list unless it is there
unfoldable pub with_use : List ℕ → ℕ → List ℕ
with_use used p = if is_used used p then used else used ++ p ∷ []

-- what a list becomes when these numbers come to it in order
unfoldable pub with_uses : List ℕ → List ℕ → List ℕ
with_uses used [] = used
with_uses used (p ∷ ps) = with_uses (with_use used p) ps

-- each of these numbers once, in the order of first use
abbrev pub first_uses : List ℕ → List ℕ
first_uses ps = with_uses [] ps
