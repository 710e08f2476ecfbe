use Rattle.glk_closure_laws.proofs.Facts.{has_least}
use Rattle.glk_closure_laws.proofs.some_least.Goals as goal

pub returns : goal.returns
returns c = has_least
