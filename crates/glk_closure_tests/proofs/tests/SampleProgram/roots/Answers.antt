use Rattle.std.proofs.Common.{length}
use Rattle.glk_closure_tests.proofs.SampleLemmas.{roots_within}
use Rattle.glk_closure_tests.proofs.tests.SampleProgram.roots.Goals as goal

pub returns-clause-within : goal.returns-clause-within
returns-clause-within c = roots_within (length c.args.self.now.effects.items) c.args.self.now.roots.items c.args.self.now.roots_within
