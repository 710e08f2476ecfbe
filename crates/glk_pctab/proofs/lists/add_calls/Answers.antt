use Rattle.glk_pctab.proofs.AddLemmas.{calls_next, calls_end}
use Rattle.glk_pctab.proofs.lists.add_calls.Goals as goal

pub loop-rest-preserved : goal.loop-rest-preserved
loop-rest-preserved c = calls_next c.loop-rest.pool c.add.new.self c.loop-rest.rest.now _ _ c.in-len1-up.len_at_least c.in_ok-add.ensures c.loop-rest.invariant

pub returns : goal.returns
returns c = calls_end c.loop-rest.pool c.loop-rest.rest.now _ c.in_default.len_below c.loop-rest.invariant
