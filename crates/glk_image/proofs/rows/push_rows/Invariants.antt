use Rattle.std.proofs.Common.{◌≡◌, ◌<◌, ◌++◌, All, map, length}
use Rattle.glk_elf.specs.Views.{symbol_row}
use Rattle.glk_image.specs.Rows.{row_of, rows_bound}
use Rattle.glk_image.proofs.rows.push_rows.Given as goal

abbrev pub invariant-loop-rest : goal.invariant-loop-rest
invariant-loop-rest l = record {
  rows : map symbol_row l.rows.items ++ rows_bound l.local (map row_of l.rest)
      ≡ map symbol_row l.fn.rows.items ++ rows_bound l.local (map row_of l.symbols);
  kinds : All (λ row. row.kind < 16) l.rows.items;
}

abbrev pub decreases-loop-rest : goal.decreases-loop-rest
decreases-loop-rest l = length l.rest
