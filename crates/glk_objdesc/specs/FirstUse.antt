-- Strings of first use: each once, where it comes first, without the empty one.
use Rattle.std.specs.Prelude.{ℕ, ◌+◌, ◌==◌, List, [], ◌∷◌, ◌++◌, length, Bool, true, false, cond}
use Rattle.std.specs.Str.{bytes_eq}

-- whether a string is in a list
unfoldable pub is_among : List (List ℕ) → List ℕ → Bool
is_among [] q = false
is_among (x ∷ xs) q = cond (bytes_eq x q) true (is_among xs q)

-- a string that is not empty comes to a list unless it is there
unfoldable pub with_first : List (List ℕ) → List ℕ → List (List ℕ)
with_first xs q = cond (length q == 0) xs (cond (is_among xs q) xs (xs ++ q ∷ []))

-- what a list becomes when these strings come to it in order
unfoldable pub with_each : List (List ℕ) → List (List ℕ) → List (List ℕ)
with_each done [] = done
with_each done (q ∷ qs) = with_each (with_first done q) qs

-- the strings of first use
abbrev pub first_use : List (List ℕ) → List (List ℕ)
first_use qs = with_each [] qs

-- strings one after the other
unfoldable pub concat_of : List (List ℕ) → List ℕ
concat_of [] = []
concat_of (x ∷ xs) = x ++ concat_of xs

-- the offset of a string in the concatenation: the length of what is before it
unfoldable pub offset_in : List (List ℕ) → List ℕ → ℕ
offset_in [] q = 0
offset_in (x ∷ xs) q = cond (bytes_eq x q) 0 (length x + offset_in xs q)
