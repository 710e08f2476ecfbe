use Rattle.std.proofs.Common.{vec_len}
use Rattle.glk_order.proofs.components.Components.finish.Given as goal

abbrev pub decreases-loop-task : goal.decreases-loop-task
decreases-loop-task l = vec_len l.self.path
