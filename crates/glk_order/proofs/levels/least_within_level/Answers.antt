use Rattle.std.proofs.Common.{arith}
use Rattle.glk_order.proofs.LevelLaws.{least_below}
use Rattle.glk_order.proofs.levels.least_within_level.Goals as goal

pub returns-clause-least : goal.returns-clause-least
returns-clause-least c = least_below c.args.edges.now c.args.levels.now c.loop-edge.edge-index c.loop-edge.least c.loop-edge.invariant.are_levels (omega arith)
