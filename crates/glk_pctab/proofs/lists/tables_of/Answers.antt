use Rattle.glk_pctab.proofs.AddLemmas.{all_new}
use Rattle.glk_pctab.proofs.lists.tables_of.Goals as goal

pub returns : goal.returns
returns c = all_new c.new-pool.result c.add_tables.new.pool _ _ c.new-pool.ensures c.in_ok-add_tables.ensures
