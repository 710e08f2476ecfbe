-- Frames of a function as its object has them.
use Rattle.std.specs.Prelude.{ℕ, List, [], ◌∷◌, Option, None, Some, cond, ◌==◌, ℤ}
use Rattle.glk_pcval.specs.Table.{value_of}
use Rattle.glk_frames.specs.Chain.{Frame, chain, most_frames, at_value, or_unknown, or_line_0}

-- an inlined call: the function that it is of, and the offset in its caller
pub record Node : Type 0 where
  pub name : List ℕ
  pub parent : ℤ

-- a function with its files, its pc tables and the nodes of its inline tree
pub record Func : Type 0 where
  pub name : List ℕ
  pub files : List (List ℕ)
  pub pcsp : List ℕ
  pub pcfile : List ℕ
  pub pcline : List ℕ
  pub pcinline : List ℕ
  pub nodes : List Node

-- a name is shown up to its first zero byte
unfoldable pub before_zero : List ℕ → List ℕ
before_zero [] = []
before_zero (byte ∷ rest) = cond (byte == 0) [] (byte ∷ before_zero rest)

abbrev pub shown_name : Option (List ℕ) → Option (List ℕ)
shown_name None = None
shown_name (Some name) = Some (before_zero name)

-- the file and the line at an offset
unfoldable pub file_of : Func → ℤ → List ℕ
file_of f off = or_unknown (shown_name (at_value f.files (value_of f.pcfile off)))

unfoldable pub line_of : Func → ℤ → ℤ
line_of f off = or_line_0 (value_of f.pcline off)

-- the frame of a node, or of the function itself, and the offset of the next
abbrev pub frame_of : Func → ℤ → Option Node → Frame × Option ℤ
frame_of f off None = (record { name = before_zero f.name; file = file_of f off; line = line_of f off }, None)
frame_of f off (Some node) = (record { name = before_zero node.name; file = file_of f off; line = line_of f off }, Some node.parent)

-- the frame at an offset: after that of an inlined call the one of its caller follows
unfoldable pub step_of : Func → ℤ → Frame × Option ℤ
step_of f off = frame_of f off (at_value f.nodes (value_of f.pcinline off))

-- the frames at an offset
unfoldable pub frames_of : Func → ℤ → List Frame
frames_of f off = chain (step_of f) most_frames (Some off)

-- the depth of the stack there
unfoldable pub depth_of : Func → ℤ → Option ℤ
depth_of f off = value_of f.pcsp off
