use Rattle.glk_init_laws.proofs.Ones.{one_tasks}
use Rattle.glk_init_laws.proofs.one_list_of_tasks.Goals as goal

pub returns : goal.returns
returns c = one_tasks
