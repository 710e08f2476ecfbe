use Rattle.glk_package.proofs.Once.{one_package}
use Rattle.glk_package.proofs.laws.one_package.Goals as goal

pub returns : goal.returns
returns c = one_package
