use Rattle.std.proofs.Common.{take}
use Rattle.glk_init.specs.Ranks.{AreNamed}
use Rattle.glk_init.proofs.ranks.named_tasks.Given as goal

abbrev pub invariant-loop-task : goal.invariant-loop-task
invariant-loop-task g l = AreNamed (g.P.InitProgram.graph l.program) (take l.task-index l.tasks) l.named.items
