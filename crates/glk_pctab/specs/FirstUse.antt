-- Byte strings of first use: each once, where it comes first, with a mark after each where they follow one another.
use Rattle.std.specs.Prelude.{ℕ, ◌+◌, List, [], ◌∷◌, ◌++◌, length, Bool, true, false, cond}
use Rattle.std.specs.Str.{bytes_eq}

-- whether a byte string is in a list
unfoldable pub is_among : List (List ℕ) → List ℕ → Bool
is_among [] q = false
is_among (x ∷ xs) q = cond (bytes_eq x q) true (is_among xs q)

-- a byte string comes to a list unless it is there
unfoldable pub with_first : List (List ℕ) → List ℕ → List (List ℕ)
with_first xs q = cond (is_among xs q) xs (xs ++ q ∷ [])

-- what a list becomes when these byte strings come to it in order
unfoldable pub with_each : List (List ℕ) → List (List ℕ) → List (List ℕ)
with_each xs [] = xs
with_each xs (q ∷ qs) = with_each (with_first xs q) qs

-- the byte strings of first use
abbrev pub first_use : List (List ℕ) → List (List ℕ)
first_use qs = with_each [] qs

-- byte strings one after the other, a mark after each
unfoldable pub concat_of : List ℕ → List (List ℕ) → List ℕ
concat_of mark [] = []
concat_of mark (x ∷ xs) = (x ++ mark) ++ concat_of mark xs

-- the offset of a byte string there: the length of what is before it
unfoldable pub offset_in : List ℕ → List (List ℕ) → List ℕ → ℕ
offset_in mark [] q = 0
offset_in mark (x ∷ xs) q = cond (bytes_eq x q) 0 (length x + length mark + offset_in mark xs q)
