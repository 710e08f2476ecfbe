use Rattle.glk_init_laws.proofs.Ones.{one_list}
use Rattle.glk_init_laws.proofs.one_init_list.Goals as goal

pub returns : goal.returns
returns c = one_list
