use Rattle.glk_pctab.proofs.AddLemmas.{tables_next, tables_end}
use Rattle.glk_pctab.proofs.lists.add_tables.Goals as goal

pub loop-rest-preserved : goal.loop-rest-preserved
loop-rest-preserved c =
    tables_next c.loop-rest.pool c.add_table.new.pool c.add_table-in-len1-up.new.pool c.add_table-in-len1-up-2.new.pool c.add_pcdata.new.pool c.loop-rest.rest.now _ _ c.in-len1-up.len_at_least
    c.in_ok-add_table.ensures c.in_ok-add_table-2.ensures c.in_ok-add_table-3.ensures c.in_ok-add_pcdata.ensures c.loop-rest.invariant

pub returns : goal.returns
returns c = tables_end c.loop-rest.pool c.loop-rest.rest.now _ c.in_default.len_below c.loop-rest.invariant
