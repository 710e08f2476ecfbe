use Rattle.std.proofs.Common.{All, List, subst, arith}
use Rattle.std.proofs.lemmas.List.{take_all}
use Rattle.glk_elf.specs.declared.frame.SymbolRow.{SymbolRow}
use Rattle.glk_elf.specs.ReaderLaw.{FitsSymbolFields}
use Rattle.glk_elf.specs.Views.{symbol_row}
use Rattle.glk_elf.proofs.PartLemmas.{next_row_at}
use Rattle.glk_elf.proofs.frame.rows_fit.Goals as goal

pub loop-row-preserved : goal.loop-row-preserved
loop-row-preserved c =
    next_row_at (λ row. FitsSymbolFields (symbol_row row)) c.args.rows.now c.loop-row.row-index _
    c.loop-row-test.true c.row_fits.ensures c.loop-row.invariant

pub returns : goal.returns
returns c =
    let Each : List SymbolRow → Type 0 = λ rows. All (λ row. FitsSymbolFields (symbol_row row)) rows in
    subst Each (take_all c.loop-row.row-index c.args.rows.now (omega arith)) c.loop-row.invariant
