-- The lines of the input.
use Rattle.std.specs.Prelude.{ℕ, ◌-◌, ◌==◌, ◌&&◌, List, [], ◌∷◌, length, take, slice_index, nat_lt, if◌then◌else◌}
use Rattle.glk_base.specs.Lines.{lines}

-- what is after the last newline is no line where it is empty
abbrev pub without_empty_end : List (List ℕ) → List (List ℕ)
without_empty_end [] = []
without_empty_end (line ∷ []) = if length line == 0 then [] else line ∷ []
without_empty_end (line ∷ next ∷ more) = line ∷ without_empty_end (next ∷ more)

abbrev pub input_lines : List ℕ → List (List ℕ)
input_lines input = without_empty_end (lines input)

abbrev pub carriage_return : ℕ
carriage_return = 13

-- a line without the carriage return that it may end with
unfoldable pub without_return : List ℕ → List ℕ
without_return line =
    if nat_lt 0 (length line) && (slice_index line (length line - 1) == carriage_return) then take (length line - 1) line else line
