-- The code's frames and entries of inline trees as what contracts speak of.
use Rattle.std.specs.Prelude.{ℕ, ℤ, Option}
use Rattle.glk_frames_reader.specs.declared.frames.Frame.{Frame as CodeFrame}
use Rattle.glk_frames_reader.specs.declared.frames.Node.{Node}
use Rattle.glk_frames.specs.Chain.{Frame}

abbrev pub frame_view : CodeFrame → Frame
frame_view f = record { name = f.name.now; file = f.file.now; line = f.line }

abbrev pub node_view : Node → ℕ × ℤ
node_view n = (n.name, n.parent)

-- a frame and the offset of the next
abbrev pub step_view : CodeFrame × Option ℤ → Frame × Option ℤ
step_view s = (frame_view s.0, s.1)
