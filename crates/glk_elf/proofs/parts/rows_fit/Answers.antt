use Rattle.std.proofs.Common.{All, List, subst, arith}
use Rattle.std.proofs.lemmas.List.{take_all}
use Rattle.glk_elf.specs.declared.parts.SymRow.{SymRow}
use Rattle.glk_elf.specs.ReaderLaw.{FitsSymbolFields}
use Rattle.glk_elf.specs.Views.{row_view}
use Rattle.glk_elf.proofs.PartLemmas.{next_row}
use Rattle.glk_elf.proofs.parts.rows_fit.Goals as goal

pub loop-row-preserved : goal.loop-row-preserved
loop-row-preserved c =
    next_row (λ row. FitsSymbolFields (row_view row)) c.args.rows.now c.loop-row.row-index c.row-item.result c.row-item.is
    c.loop-row-test.true c.row_fits.ensures c.loop-row.invariant

pub returns : goal.returns
returns c =
    let Each : List SymRow → Type 0 = λ rows. All (λ row. FitsSymbolFields (row_view row)) rows in
    subst Each (take_all c.loop-row.row-index c.args.rows.now (omega arith)) c.loop-row.invariant
