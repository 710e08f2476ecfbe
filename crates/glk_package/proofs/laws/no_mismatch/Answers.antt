use Rattle.glk_package.proofs.NoMismatch.{no_mismatch}
use Rattle.glk_package.proofs.laws.no_mismatch.Goals as goal

pub returns : goal.returns
returns c = no_mismatch
