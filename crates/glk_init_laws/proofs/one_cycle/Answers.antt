use Rattle.glk_init_laws.proofs.Ones.{one_cycle}
use Rattle.glk_init_laws.proofs.one_cycle.Goals as goal

pub returns : goal.returns
returns c = one_cycle
