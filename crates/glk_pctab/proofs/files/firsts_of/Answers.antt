use Rattle.std.proofs.Common.{refl}
use Rattle.glk_pctab.proofs.FileSteps.{first_next, index_next, first_end}
use Rattle.glk_pctab.proofs.files.firsts_of.Goals as goal

pub loop-rest-preserved : goal.loop-rest-preserved
loop-rest-preserved c = record {
  firsts = first_next c.push.new.self.items c.loop-rest.firsts.items c.loop-rest.index _ c.loop-rest.rest.now _ _ c.in-len1-up.len_at_least c.in_ok-push.ensures.items refl c.loop-rest.invariant.firsts;
  index = index_next c.loop-rest.index _ _ c.loop-rest.rest.now _ c.in-len1-up.len_at_least refl c.loop-rest.invariant.index;
}

pub returns : goal.returns
returns c = first_end c.loop-rest.firsts.items c.loop-rest.index c.loop-rest.rest.now _ c.in_default.len_below c.loop-rest.invariant.firsts
