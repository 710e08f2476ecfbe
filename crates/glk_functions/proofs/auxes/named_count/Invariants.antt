use Rattle.std.proofs.Common.{◌≡◌, ◌+◌, length}
use Rattle.glk_functions.specs.Auxes.{named_count}
use Rattle.glk_functions.proofs.auxes.named_count.Given as goal

abbrev pub invariant-loop-rest : goal.invariant-loop-rest
invariant-loop-rest l = l.count + named_count l.fn.kind l.rest ≡ named_count l.fn.kind l.fn.auxes

abbrev pub decreases-loop-rest : goal.decreases-loop-rest
decreases-loop-rest l = length l.rest
