use Rattle.glk_tools.proofs.Addr2lineSteps.{one_answering}
use Rattle.glk_tools.proofs.laws.one_answering.Goals as goal

pub returns : goal.returns
returns c = one_answering
