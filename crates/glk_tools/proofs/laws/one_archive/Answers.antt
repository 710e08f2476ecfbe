use Rattle.glk_tools.proofs.MkobjSteps.{one_archive}
use Rattle.glk_tools.proofs.laws.one_archive.Goals as goal

pub returns : goal.returns
returns c = one_archive
