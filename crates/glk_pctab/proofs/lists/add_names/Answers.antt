use Rattle.glk_pctab.proofs.AddLemmas.{names_next, names_end}
use Rattle.glk_pctab.proofs.lists.add_names.Goals as goal

pub loop-rest-preserved : goal.loop-rest-preserved
loop-rest-preserved c = names_next c.loop-rest.pool c.add.new.self c.add_calls.new.pool c.loop-rest.rest.now _ _ c.in-len1-up.len_at_least c.in_ok-add.ensures c.in_ok-add_calls.ensures c.loop-rest.invariant

pub returns : goal.returns
returns c = names_end c.loop-rest.pool c.loop-rest.rest.now _ c.in_default.len_below c.loop-rest.invariant
