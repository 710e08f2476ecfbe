use Rattle.glk_pcval.proofs.LawLemmas.{values_law, beyond_law}
use Rattle.glk_pcval.proofs.laws.ranges_decide_values.Goals as goal

pub returns-clause-values : goal.returns-clause-values
returns-clause-values c = values_law

pub returns-clause-beyond : goal.returns-clause-beyond
returns-clause-beyond c = beyond_law
