use Rattle.glk_base.proofs.RuleLaws.{settled}
use Rattle.glk_obj.proofs.Objects.{unbroken}
use Rattle.glk_obj.proofs.check.stop_if_broken.Goals as goal

pub returns-in-None-clause-ok : goal.returns-in-None-clause-ok
returns-in-None-clause-ok c = settled _ c.args.rule c.requires.positive c.requires.before (rw c.in-None.is at c.requires.found)

pub returns-in-Some-clause-refused : goal.returns-in-Some-clause-refused
returns-in-Some-clause-refused c = λ object. unbroken c.args.bytes.now c.args.rule c.in-Some.offset object (rw c.in-Some.is at c.requires.found).holds
