use Rattle.std.proofs.Common.{All, take}
use Rattle.glk_elf.specs.ReaderLaw.{FitsSymbolFields}
use Rattle.glk_elf.specs.Views.{row_view}
use Rattle.glk_elf.proofs.parts.rows_fit.Given as goal

abbrev pub invariant-loop-row : goal.invariant-loop-row
invariant-loop-row l = All (λ row. FitsSymbolFields (row_view row)) (take l.row-index l.rows)
