use Rattle.std.proofs.Common.{All, take}
use Rattle.glk_elf.specs.ReaderLaw.{FitsSymbolFields}
use Rattle.glk_elf.specs.Views.{symbol_row}
use Rattle.glk_elf.proofs.frame.rows_fit.Given as goal

abbrev pub invariant-loop-row : goal.invariant-loop-row
invariant-loop-row l = All (λ row. FitsSymbolFields (symbol_row row)) (take l.row-index l.rows)
