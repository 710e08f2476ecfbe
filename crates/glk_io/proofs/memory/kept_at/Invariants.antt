use Rattle.std.proofs.Common.{◌≡◌, drop}
use Rattle.glk_io.specs.Memory.{listed}
use Rattle.glk_io.proofs.memory.kept_at.Given as goal

abbrev pub invariant-loop-fail : goal.invariant-loop-fail
invariant-loop-fail l = listed l.fails l.call ≡ listed (drop l.fail-index l.fails) l.call
