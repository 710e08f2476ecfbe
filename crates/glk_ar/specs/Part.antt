-- The object in the body of a member: lines of text, a mark, and the object's data.
use Rattle.std.specs.Prelude.{◌≡◌, ◌+◌, ◌<◌, ◌==◌, ℕ, List, [], ◌∷◌, length, drop, codes, nat_eq, true}
use Rattle.std.specs.List.{starts_with, before_first}

-- how the line of an object for this platform begins
abbrev pub line_start : List ℕ
line_start = codes "go object linux amd64 "

abbrev pub HasLineStart : List ℕ → Type 0
HasLineStart body = starts_with nat_eq body line_start ≡ true

abbrev pub newline : ℕ
newline = 10

-- a newline, an exclamation mark and a newline
abbrev pub mark : List ℕ
mark = 10 ∷ 33 ∷ 10 ∷ []

-- the mark begins at this offset
abbrev pub IsMarkAt : List ℕ → ℕ → Type 0
IsMarkAt body i = starts_with nat_eq (drop i body) mark ≡ true

-- A7: the number of the rule that the mark is there
abbrev pub mark_rule : ℕ
mark_rule = 7

-- It is broken: the mark begins nowhere.
abbrev pub HasNoMark : List ℕ → Type 0
HasNoMark body = (i : ℕ) → IsMarkAt body i → ⊥

-- the least offset at which the mark begins
pub record IsFirstMark (body : List ℕ) (at : ℕ) : Type 0 where
  pub here : IsMarkAt body at
  pub earlier : (k : ℕ) → k < at → IsMarkAt body k → ⊥

-- an object in a body: its first line, its data, and their offset in the body
pub record Part : Type 0 where
  pub line : List ℕ
  pub goobj : List ℕ
  pub at : ℕ

-- The body begins as an object for this platform does, and holds this one: the line up to the first newline, and the data
-- after the first mark.
pub record HoldsPart (body : List ℕ) (part : Part) : Type 0 where
  pub start : HasLineStart body
  pub mark_at : ℕ
  pub first : IsFirstMark body mark_at
  pub at : part.at ≡ mark_at + length mark
  pub goobj : part.goobj ≡ drop part.at body
  pub line : part.line ≡ before_first (λ x. x == newline) body
