use Rattle.std.proofs.Common.{◌+◌, ◌-◌, ◌*◌, ◌/◌}
use Rattle.glk_image.proofs.fill.+fill.Given as goal

abbrev pub decreases-fill_halves-join_mut+arg2 : goal.decreases-fill_halves-join_mut+arg2
decreases-fill_halves-join_mut+arg2 g l = 2 * (l.workers - l.workers / 2) + 1

abbrev pub decreases-fill_halves-join_mut+arg3 : goal.decreases-fill_halves-join_mut+arg3
decreases-fill_halves-join_mut+arg3 g l = 2 * (l.workers / 2) + 1

abbrev pub decreases-fill_halves : goal.decreases-fill_halves
decreases-fill_halves g l = 2 * l.workers

abbrev pub decreases-fill_contents : goal.decreases-fill_contents
decreases-fill_contents g l = 2 * l.workers + 1
