use Rattle.glk_objtext.proofs.ReadSteps.{at_first}
use Rattle.glk_objtext.proofs.read.read_lines_of.Goals as goal

pub loop-rest-init : goal.loop-rest-init
loop-rest-init c = rw c.start.ensures (at_first c.new.result c.args.text.now c.new.ensures)

pub returns : goal.returns
returns c = let inv = rw c.in_default.is at c.loop-rest.invariant in rw (← inv) (c.finish.ensures c.loop-rest.line)
