use Rattle.glk_pctab.proofs.AddLemmas.{files_next, files_end}
use Rattle.glk_pctab.proofs.lists.add_files.Goals as goal

pub loop-rest-preserved : goal.loop-rest-preserved
loop-rest-preserved c = files_next c.loop-rest.pool c.add_file.new.pool c.loop-rest.rest.now _ _ c.in-len1-up.len_at_least c.in_ok-add_file.ensures c.loop-rest.invariant

pub returns : goal.returns
returns c = files_end c.loop-rest.pool c.loop-rest.rest.now _ c.in_default.len_below c.loop-rest.invariant
