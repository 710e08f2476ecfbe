use Rattle.glk_init_laws.proofs.SomeTasks.{first_undefined}
use Rattle.glk_init_laws.proofs.some_undefined.Goals as goal

pub returns : goal.returns
returns c = first_undefined
