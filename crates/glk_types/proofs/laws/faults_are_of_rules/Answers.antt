use Rattle.glk_types.proofs.FaultLemmas.{header_law, methods_law, imethod_law}
use Rattle.glk_types.proofs.laws.faults_are_of_rules.Goals as goal

pub returns-clause-header : goal.returns-clause-header
returns-clause-header c = header_law

pub returns-clause-methods : goal.returns-clause-methods
returns-clause-methods c = methods_law

pub returns-clause-imethod : goal.returns-clause-imethod
returns-clause-imethod c = imethod_law
