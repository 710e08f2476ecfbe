use Rattle.glk_pctab.proofs.AddLemmas.{all_new}
use Rattle.glk_pctab.proofs.lists.files_of.Goals as goal

pub returns : goal.returns
returns c = all_new c.new-pool.result c.add_files.new.pool _ _ c.new-pool.ensures c.in_ok-add_files.ensures
