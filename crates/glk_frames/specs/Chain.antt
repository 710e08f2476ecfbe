-- Frames one after the other: at each offset there is a frame, and the offset of the next or none.
use Rattle.std.specs.Prelude.{ℕ, zero, suc, List, [], ◌∷◌, Option, None, Some, ℤ, pos, negsuc}

-- what is shown
pub record Frame : Type 0 where
  pub name : List ℕ
  pub file : List ℕ
  pub line : ℤ

-- the greatest number of frames
abbrev pub most_frames : ℕ
most_frames = 65536

-- the frames from an offset on, at most n
unfoldable pub chain : (ℤ → Frame × Option ℤ) → ℕ → Option ℤ → List Frame
chain step zero next = []
chain step (suc most) None = []
chain step (suc most) (Some off) = (step off).0 ∷ chain step most (step off).1

-- the chain ends by itself within n frames
unfoldable pub Ends : (ℤ → Frame × Option ℤ) → ℕ → Option ℤ → Type 0
Ends step most None = Unit {0}
Ends step zero (Some off) = ⊥
Ends step (suc most) (Some off) = Ends step most (step off).1

-- element i
abbrev pub at_index : {A : Type 0} → List A → ℕ → Option A
at_index [] i = None
at_index (x ∷ xs) zero = Some x
at_index (x ∷ xs) (suc i) = at_index xs i

-- the element of a pc table's value: there is none without a value, and none below 0
abbrev pub at_value : {A : Type 0} → List A → Option ℤ → Option A
at_value xs None = None
at_value xs (Some (negsuc below)) = None
at_value xs (Some (pos i)) = at_index xs i

-- what is shown where there is no name: `?`
abbrev pub or_unknown : Option (List ℕ) → List ℕ
or_unknown None = 63 ∷ []
or_unknown (Some name) = name

-- and where there is no line: 0
abbrev pub or_line_0 : Option ℤ → ℤ
or_line_0 None = pos 0
or_line_0 (Some line) = line
