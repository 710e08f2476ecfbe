use Rattle.std.proofs.Common.{Some, get_or, arith}
use Rattle.glk_tables.specs.Chains.{link}
use Rattle.glk_tables.proofs.ChainLemmas.{after_zero, step_on, length_from, one_node, long_from, long_here}
use Rattle.glk_tables.proofs.calls.measure.Goals as goal

pub loop-steps-init : goal.loop-steps-init
loop-steps-init c = record { inside = c.requires.from; reached = after_zero (link c.args.callers.now) (Some c.args.from) }

pub returns-then-steps-known-le-MOST_NODES : goal.returns-then-steps-known-le-MOST_NODES
returns-then-steps-known-le-MOST_NODES c =
    length_from c.args.callers.now c.loop-steps.steps (get_or c.args.lengths.now c.loop-steps.at 0) c.args.from c.loop-steps.at (omega arith) c.loop-steps.invariant.reached
    (c.requires.lengths.each c.loop-steps.at (omega arith))

pub returns-else-steps-known-le-MOST_NODES : goal.returns-else-steps-known-le-MOST_NODES
returns-else-steps-known-le-MOST_NODES c =
    long_from c.args.callers.now c.loop-steps.steps (get_or c.args.lengths.now c.loop-steps.at 0) c.args.from c.loop-steps.at (omega arith) (omega arith) c.loop-steps.invariant.reached
    (c.requires.lengths.each c.loop-steps.at (omega arith))

pub returns-in-None : goal.returns-in-None
returns-in-None c =
    length_from c.args.callers.now c.loop-steps.steps 1 c.args.from c.loop-steps.at (omega arith) c.loop-steps.invariant.reached (one_node c.args.callers.now c.loop-steps.at c.in-None.is)

pub loop-steps-preserved : goal.loop-steps-preserved
loop-steps-preserved c = record {
  inside = c.requires.inside c.loop-steps.at c.in-Some.next c.in-Some.is;
  reached = step_on (link c.args.callers.now) c.loop-steps.steps c.args.from c.loop-steps.at (Some c.in-Some.next) c.loop-steps.invariant.reached c.in-Some.is;
}

pub returns : goal.returns
returns c = long_here c.args.callers.now c.loop-steps.steps c.args.from c.loop-steps.at (omega arith) c.loop-steps.invariant.reached
