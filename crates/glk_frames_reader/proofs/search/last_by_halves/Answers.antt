use Rattle.std.proofs.Common.{◌-◌, sym, arith}
use Rattle.glk_frames.specs.Region.{function_count, start_of}
use Rattle.glk_frames.proofs.SearchLemmas.{last_is}
use Rattle.glk_frames_reader.proofs.SearchLemmas.{last_none}
use Rattle.glk_frames_reader.proofs.search.last_by_halves.Goals as goal

pub returns-then-low-eq0-clause-value : goal.returns-then-low-eq0-clause-value
returns-then-low-eq0-clause-value c =
    last_none (start_of c.args.region.now) c.args.off (function_count c.args.region.now) (λ j below. c.loop-low.invariant.above j (omega arith) below)

pub returns-else-low-eq0-clause-value : goal.returns-else-low-eq0-clause-value
returns-else-low-eq0-clause-value c =
    sym (last_is (start_of c.args.region.now) c.args.off (function_count c.args.region.now) (c.loop-low.low - 1)
    (omega (arith, c.loop-low.invariant.inside, c.loop-low.invariant.ordered))
    (c.loop-low.invariant.below (c.loop-low.low - 1) (omega arith))
    (λ j lower below. c.loop-low.invariant.above j (omega (arith, c.loop-low.invariant.ordered)) below))
