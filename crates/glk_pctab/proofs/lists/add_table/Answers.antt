use Rattle.std.proofs.Common.{arith}
use Rattle.glk_pctab.proofs.AddLemmas.{table_none}
use Rattle.glk_pctab.proofs.lists.add_table.Goals as goal

pub returns-then-table-eq0 : goal.returns-then-table-eq0
returns-then-table-eq0 c = table_none c.args.pool.now c.args.table.now (omega arith)
