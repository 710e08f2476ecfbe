-- Roots one by one.
use Rattle.std.specs.Prelude.{ℕ, List, [], ◌∷◌, Option, Some, None}

-- the list of what is there
abbrev pub some_list : Option ℕ → List ℕ
some_list None = []
some_list (Some k) = k ∷ []
