use Rattle.glk_init_laws.proofs.SomeTasks.{some_tasks}
use Rattle.glk_init_laws.proofs.some_tasks.Goals as goal

pub returns : goal.returns
returns c = some_tasks
