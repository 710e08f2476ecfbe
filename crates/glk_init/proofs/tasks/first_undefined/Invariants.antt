use Rattle.std.proofs.Common.{◌<◌, take}
use Rattle.std.specs.Prelude.{IfSome}
use Rattle.glk_init.specs.Reached.{IsFirstAmong}
use Rattle.glk_init.proofs.tasks.first_undefined.Given as goal

abbrev pub invariant-loop-task : goal.invariant-loop-task
invariant-loop-task g l =
    IsFirstAmong (g.P.InitProgram.graph l.program) (take l.task-index l.tasks) l.first
    × IfSome l.first (λ u. u.task < (g.P.InitProgram.graph l.program).keys)
