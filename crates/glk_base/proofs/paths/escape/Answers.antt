use Rattle.glk_base.proofs.Escapes.{escape_more, escape_end}
use Rattle.glk_base.proofs.paths.escape.Goals as goal

pub loop-i-preserved : goal.loop-i-preserved
loop-i-preserved c = escape_more _ _ _ _ _ _ _ c.loop-i-test.true c.spelling-code.ensures.same c.in_ok-extend_from_slice.ensures.items c.loop-i.invariant

pub returns : goal.returns
returns c = escape_end _ _ _ _ _ c.loop-i-test.false c.loop-i.invariant
