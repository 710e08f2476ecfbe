use Rattle.std.proofs.Common.{◌∙◌, sym, arith}
use Rattle.glk_frames.specs.Region.{function_count, start_of}
use Rattle.glk_frames_reader.proofs.SearchLemmas.{forward_skips, forward_here, forward_ends}
use Rattle.glk_frames_reader.proofs.search.forward.Goals as goal

pub returns-then-off-start_of-clause-value : goal.returns-then-off-start_of-clause-value
returns-then-off-start_of-clause-value c =
    sym (forward_here (start_of c.args.region.now) c.args.off (function_count c.args.region.now) c.loop-j.j (omega arith) (omega arith)) ∙ c.loop-j.invariant

pub loop-j-preserved : goal.loop-j-preserved
loop-j-preserved c =
    sym (forward_skips (start_of c.args.region.now) c.args.off (function_count c.args.region.now) c.loop-j.j (omega arith) (omega arith)) ∙ c.loop-j.invariant

pub returns-clause-value : goal.returns-clause-value
returns-clause-value c =
    forward_ends (start_of c.args.region.now) c.args.off (function_count c.args.region.now) c.loop-j.j (omega arith) ∙ c.loop-j.invariant
