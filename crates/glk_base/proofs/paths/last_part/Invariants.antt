use Rattle.std.proofs.Common.{◌≡◌, ◌+◌, ◌≤◌, length, take, not, eqb}
use Rattle.std.specs.List.{suffix_len}
use Rattle.glk_base.proofs.paths.last_part.Given as goal

abbrev pub invariant-loop-n : goal.invariant-loop-n
invariant-loop-n l = (l.n ≤ length l.path) × (l.n + suffix_len (λ b. not (eqb b 47)) l.path ≡ length l.path + suffix_len (λ b. not (eqb b 47)) (take l.n l.path))

abbrev pub decreases-loop-n : goal.decreases-loop-n
decreases-loop-n l = l.n
