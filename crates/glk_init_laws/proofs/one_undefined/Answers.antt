use Rattle.glk_init_laws.proofs.Ones.{one_undefined}
use Rattle.glk_init_laws.proofs.one_undefined.Goals as goal

pub returns : goal.returns
returns c = one_undefined
