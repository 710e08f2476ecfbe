use Rattle.std.proofs.Common.{◌≡◌, length}
use Rattle.glk_tables.specs.Rules.{any, is_not_rodata}
use Rattle.glk_tables.proofs.rules.any_not_rodata.Given as goal

abbrev pub invariant-loop-rest : goal.invariant-loop-rest
invariant-loop-rest l = any is_not_rodata l.rest ≡ any is_not_rodata l.fn.targets

abbrev pub decreases-loop-rest : goal.decreases-loop-rest
decreases-loop-rest l = length l.rest
