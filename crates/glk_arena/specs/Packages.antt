-- Which loaded package a stored path means.
use Rattle.std.specs.Prelude.{ℕ, List, Option}
use Rattle.std.specs.List.{position}
use Rattle.std.specs.Option.{option_or}
use Rattle.std.specs.Str.{bytes_eq}
use Rattle.glk_base.specs.Paths.{escaped_spelling}

-- the index of the first path that is the name
abbrev pub place_of_path : List (List ℕ) → List ℕ → Option ℕ
place_of_path paths name = position (λ path. bytes_eq name path) paths

-- the index of the first path whose escaped spelling is the name
abbrev pub place_of_escaped : List (List ℕ) → List ℕ → Option ℕ
place_of_escaped paths name = position (λ path. bytes_eq name (escaped_spelling path)) paths

-- The index of the package that the name means among these paths: the first that equals it, else the first whose escaped
-- spelling it is.
abbrev pub find_package : List (List ℕ) → List ℕ → Option ℕ
find_package paths name = option_or (place_of_path paths name) (place_of_escaped paths name)
