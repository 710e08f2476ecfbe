use Rattle.std.proofs.Common.{◌≡◌, drop}
use Rattle.glk_functions.specs.Checks.{first_fault}
use Rattle.glk_functions.proofs.check.first_fault.Given as goal

abbrev pub invariant-loop-key : goal.invariant-loop-key
invariant-loop-key l = first_fault l.merged.program (drop l.key-index l.kept) ≡ first_fault l.merged.program l.fn.kept
