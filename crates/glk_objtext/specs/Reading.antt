-- What a text says as a whole.
use Rattle.std.specs.Prelude.{◌==◌, ℕ, List, ◌∷◌, [], if◌then◌else◌, Result, Ok, Err}
use Rattle.glk_objdesc.specs.declared.desc.ObjDesc.{ObjDesc}
use Rattle.glk_objtext.specs.Answers.{misplaced_object}
use Rattle.glk_base.specs.Lines.{lines, trimmed_line, is_skipped}
use Rattle.glk_objtext.specs.Grammar.{at_start, after, line_at}
use Rattle.glk_objtext.specs.Description.{description_of_lines}
use Rattle.glk_objtext.specs.Rules.{next_number}
use Rattle.glk_objtext.specs.declared.line.Line.{Line}
use Rattle.glk_objtext.specs.declared.read.TextBad.{TextBad}
use Rattle.glk_objtext.specs.declared.stage.Stage.{Stage}

-- a line before those that follow, unless one of these is bad
abbrev pub onto_lines : Line → Result (List Line) TextBad → Result (List Line) TextBad
onto_lines line (Ok more) = Ok (line ∷ more)
onto_lines line (Err bad) = Err bad

-- What the lines from number n on say, or the first bad one with the least rule that it breaks.
-- Lines that are empty or comments are skipped. A text without an `object` line is bad in its first line.
unfoldable pub read_lines : ℕ → Stage → List (List ℕ) → Result (List Line) TextBad
read_lines n stage [] = if stage.rank == 0 then Err (record { line = 1; rule = misplaced_object }) else Ok []
read_lines n stage (raw ∷ more) =
    if is_skipped (trimmed_line raw) then read_lines (next_number n) stage more
    else elim (line_at stage (trimmed_line raw)) [
      | Ok line ↦ onto_lines line (read_lines (next_number n) (after stage line) more)
      | Err rule ↦ Err (record { line = n; rule = rule })
    ]

-- what lines that are all good describe
abbrev pub answer_of_lines : Result (List Line) TextBad → Result ObjDesc TextBad
answer_of_lines (Ok good) = Ok (description_of_lines good)
answer_of_lines (Err bad) = Err bad

-- the description that a text spells, or its first bad line
unfoldable pub read_text : List ℕ → Result ObjDesc TextBad
read_text text = answer_of_lines (read_lines 1 at_start (lines text))
