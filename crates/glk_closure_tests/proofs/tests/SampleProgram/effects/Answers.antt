use Rattle.glk_closure_tests.proofs.SampleLemmas.{sample_within}
use Rattle.glk_closure_tests.proofs.tests.SampleProgram.effects.Goals as goal

pub returns-clause-within : goal.returns-clause-within
returns-clause-within c = sample_within c.args.self.now.effects.items c.args.key c.args.self.now.within
