use Rattle.std.proofs.Common.{◌≡◌, ◌++◌, length}
use Rattle.glk_pctab.specs.FirstUse.{concat_of}
use Rattle.glk_pctab.specs.Views.{texts_of}
use Rattle.glk_pctab.proofs.pool.push_elements.Given as goal

abbrev pub invariant-loop-rest : goal.invariant-loop-rest
invariant-loop-rest l = l.out.items ++ concat_of l.mark (texts_of l.rest) ≡ l.fn.out.items ++ concat_of l.mark (texts_of l.elements)

abbrev pub decreases-loop-rest : goal.decreases-loop-rest
decreases-loop-rest l = length l.rest
