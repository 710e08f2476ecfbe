use Rattle.glk_init_laws.proofs.SomeTasks.{has_list_or_cycle}
use Rattle.glk_init_laws.proofs.some_init_list.Goals as goal

pub returns : goal.returns
returns c = has_list_or_cycle
