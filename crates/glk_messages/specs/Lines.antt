-- A line of the program, and what a write of it leaves.
use Rattle.std.specs.Prelude.{◌⊎◌, ℕ, List, ◌++◌, codes}
use Rattle.std.specs.List.{concat}
use Rattle.glk_io.specs.Changes.{SinkState, SinkAppends, SinkFails}

-- the line with a text, given in pieces
unfoldable pub line_of : List (List ℕ) → List ℕ
line_of text = codes "golink: " ++ concat text ++ codes "\n"

-- a line was written whole, or a prefix of it and a write failed
unfoldable pub ReportsLine : SinkState → SinkState → List ℕ → Type 0
ReportsLine old new line = SinkAppends old new line ⊎ SinkFails old new line
