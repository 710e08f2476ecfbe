use Rattle.std.proofs.Common.{◌≡◌, map, take}
use Rattle.glk_init.proofs.ranks.keys_of.Given as goal

abbrev pub invariant-loop-task : goal.invariant-loop-task
invariant-loop-task l = l.keys.items ≡ map (λ task. task.key) (take l.task-index l.named)
