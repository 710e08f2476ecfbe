use Rattle.std.proofs.Common.{◌≡◌, length}
use Rattle.glk_functions.specs.Auxes.{first_named}
use Rattle.glk_functions.proofs.auxes.first_named.Given as goal

abbrev pub invariant-loop-rest : goal.invariant-loop-rest
invariant-loop-rest l = first_named l.fn.kind l.rest ≡ first_named l.fn.kind l.fn.auxes

abbrev pub decreases-loop-rest : goal.decreases-loop-rest
decreases-loop-rest l = length l.rest
