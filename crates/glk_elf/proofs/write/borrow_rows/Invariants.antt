use Rattle.std.proofs.Common.{◌≡◌, ◌++◌, map, length}
use Rattle.glk_elf.specs.Views.{row_view, symbol_row}
use Rattle.glk_elf.proofs.write.borrow_rows.Given as goal

abbrev pub invariant-loop-rest : goal.invariant-loop-rest
invariant-loop-rest l = map symbol_row l.borrowed.items ++ map row_view l.rest ≡ map row_view l.rows

abbrev pub decreases-loop-rest : goal.decreases-loop-rest
decreases-loop-rest l = length l.rest
