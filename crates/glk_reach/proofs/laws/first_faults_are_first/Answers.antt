use Rattle.glk_reach.proofs.FirstFaults.{first_faults}
use Rattle.glk_reach.proofs.laws.first_faults_are_first.Goals as goal

pub returns : goal.returns
returns c = first_faults
