use Rattle.glk_package.proofs.Some.{some_package}
use Rattle.glk_package.proofs.laws.some_package.Goals as goal

pub returns : goal.returns
returns c = some_package
