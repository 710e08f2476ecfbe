use Rattle.glk_pctab.proofs.FileSteps.{unit_next, unit_end}
use Rattle.glk_pctab.proofs.files.all_files.Goals as goal

pub loop-rest-preserved : goal.loop-rest-preserved
loop-rest-preserved c = unit_next c.extend_from_slice.new.self.items c.loop-rest.files.items c.loop-rest.rest.now _ _ c.in-len1-up.len_at_least c.in_ok-extend_from_slice.ensures.items c.loop-rest.invariant

pub returns : goal.returns
returns c = unit_end c.loop-rest.files.items c.loop-rest.rest.now _ c.in_default.len_below c.loop-rest.invariant
