use Rattle.glk_base.proofs.RuleLaws.{settled}
use Rattle.glk_elf.specs.ReaderRules.{Breaks}
use Rattle.glk_elf.proofs.ReaderIntact.{unbroken}
use Rattle.glk_elf.proofs.read.rules.stop_if_broken.Goals as goal

pub returns-in-None-clause-ok : goal.returns-in-None-clause-ok
returns-in-None-clause-ok c = settled (Breaks c.args.bytes.now) c.args.rule c.requires.positive c.requires.before (rw c.in-None.is at c.requires.found)

pub returns-in-Some-clause-refused : goal.returns-in-Some-clause-refused
returns-in-Some-clause-refused c = λ elf. unbroken c.args.bytes.now c.args.rule c.in-Some.offset elf (rw c.in-Some.is at c.requires.found).holds
