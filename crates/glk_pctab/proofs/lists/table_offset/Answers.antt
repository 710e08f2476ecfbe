use Rattle.std.proofs.Common.{arith, ◌≡◌, ap, ◌∙◌, []}
use Rattle.glk_pctab.specs.FirstUse.{offset_in}
use Rattle.glk_pctab.proofs.AddLemmas.{table_empty, table_full}
use Rattle.glk_pctab.proofs.PoolLemmas.{offset_le}
use Rattle.glk_pctab.proofs.lists.table_offset.Goals as goal

pub returns-then-table-eq0 : goal.returns-then-table-eq0
returns-then-table-eq0 c = table_empty c.args.tables.now.elements c.args.table.now (omega arith)

is_offset : (c : goal.After-offset) → c.offset.result ≡ offset_in [] c.args.tables.now.elements c.args.table.now
is_offset c = c.offset.ensures ∙ ap (λ m. offset_in m c.args.tables.now.elements c.args.table.now) c.requires.mark

pub overflow_add-result : goal.overflow_add-result
overflow_add-result c = let e = is_offset c in omega (arith, e, offset_le [] c.args.tables.now.elements c.args.table.now, c.requires.short)

pub returns : goal.returns
returns c = table_full c.args.tables.now.elements c.args.table.now c.offset.result (λ none. omega (arith, none)) (is_offset c)
