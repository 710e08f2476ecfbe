use Rattle.std.proofs.Common.{refl}
use Rattle.glk_closure.proofs.MetCalls.{least_facts}
use Rattle.glk_closure.proofs.facts.kept_facts.Goals as goal

pub returns : goal.returns
returns g c = least_facts (g.P.Program.graph c.args.program.now) _ c.in_ok-marks.marks refl refl refl c.in_ok-marks.ensures.least c.in_ok-marks.ensures.covers
