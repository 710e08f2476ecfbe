-- Configuration files: their lines, the words of a line, and which line is the first bad one.
use Rattle.std.specs.Prelude.{◌≡◌, ◌+◌, ◌-◌, ◌<◌, ◌≤◌, ◌==◌, ◌^◌, ◌||◌, ℕ, Bool, List, [], ◌∷◌, length, take, drop, min, slice_index, slice_index_or, Option, None, Some}
use Rattle.std.specs.List.{slice_split, position_or_len, prefix_len, suffix_len}
use denote.Ref.{Bor}

abbrev pub newline : ℕ
newline = 10

abbrev pub space : ℕ
space = 32

-- `#`, with which a comment begins
abbrev pub comment_sign : ℕ
comment_sign = 35

-- a space, a tab or a carriage return
abbrev pub is_blank : ℕ → Bool
is_blank b = (b == space) || (b == 9) || (b == 13)

abbrev pub is_space : ℕ → Bool
is_space b = b == space

-- What is between newlines. After a newline at the text's end there is one line more, an empty one; it says
-- nothing, so the last line may have a newline or lack it.
unfoldable pub lines : List ℕ → List (List ℕ)
lines text = slice_split (λ b. b == newline) text

-- a line without the blanks at its ends
unfoldable pub trimmed_line : List ℕ → List ℕ
trimmed_line line =
    let rest = drop (prefix_len is_blank line) line in
    take (length rest - suffix_len is_blank rest) rest

-- a line that is skipped: it is empty, or a comment
abbrev pub is_skipped : List ℕ → Bool
is_skipped t = (length t == 0) || (slice_index t 0 == comment_sign)

-- line k, from 0, without the blanks at its ends
abbrev pub line_at : List (List ℕ) → ℕ → List ℕ
line_at ls k = trimmed_line (slice_index_or ls k [])

-- what is before the first space
unfoldable pub first_word : List ℕ → List ℕ
first_word t = take (position_or_len is_space t) t

-- what is after it and the spaces that follow it
unfoldable pub after_word : List ℕ → List ℕ
after_word t =
    let rest = drop (position_or_len is_space t) t in
    drop (prefix_len is_space rest) rest

-- These bytes begin as a decimal number does: with a digit, and with `0` only where nothing follows.
pub record BeginsNumber (digits : List ℕ) : Type 0 where
  pub some : 0 < length digits
  pub low : 48 ≤ slice_index digits 0
  pub high : slice_index digits 0 ≤ 57
  pub alone : slice_index digits 0 ≡ 48 → length digits ≡ 1

-- The number by which a line is called, from 1; where it is past 2^32 - 1, that is given.
abbrev pub line_number : ℕ → ℕ
line_number k = min (k + 1) (2 ^ 32 - 1)

-- Each of these lines is good.
abbrev pub AllGood : List (List ℕ) → (ℕ → Type 0) → Type 0
AllGood ls Good = (k : ℕ) → k < length ls → Good k

-- The first line that is not good has this number.
pub record IsFirstBad (ls : List (List ℕ)) (Good : ℕ → Type 0) (number : ℕ) : Type 0 where
  pub line : ℕ
  pub inside : line < length ls
  pub before : (k : ℕ) → k < line → Good k
  pub bad : Good line → ⊥
  pub number_is : number ≡ line_number line

-- Cutting a text into its lines.

-- the lines of what is left, where something is
abbrev pub left_lines : Option (Bor (List ℕ)) → List (List ℕ)
left_lines None = []
left_lines (Some text) = lines text.now

-- how much is left; it falls with each line
abbrev pub left_size : Option (Bor (List ℕ)) → ℕ
left_size None = 0
left_size (Some text) = length text.now + 1

-- the first line of a text, and what follows its newline, where it has one
pub record IsCut (text line : List ℕ) (rest : Option (Bor (List ℕ))) : Type 0 where
  pub cut : lines text ≡ line ∷ left_lines rest
  pub shorter : left_size rest ≤ length text

-- How far a reader of lines has come: the first n lines are read, and good; `rest` is what is left,
-- and `number` is the number of the next line.
pub record HasRead (ls : List (List ℕ)) (Good : ℕ → Type 0) (n : ℕ) (rest : Option (Bor (List ℕ))) (number : ℕ) : Type 0 where
  pub within : n ≤ length ls
  pub left : left_lines rest ≡ drop n ls
  pub number_is : number ≡ line_number n
  pub good : (k : ℕ) → k < n → Good k
