use Rattle.std.proofs.Common.{vec_len}
use Rattle.glk_order.proofs.components.Components.join.Given as goal

abbrev pub decreases-loop-bound : goal.decreases-loop-bound
decreases-loop-bound l = vec_len l.self.bounds
