use Rattle.glk_reach.proofs.FirstFaults.{one_fault}
use Rattle.glk_reach.proofs.laws.reach_faults_are_one.Goals as goal

pub returns : goal.returns
returns c = one_fault
