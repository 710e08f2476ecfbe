use Rattle.std.proofs.Common.{◌≡◌, ◌+◌, ◌≤◌, eqb, length, take}
use Rattle.std.specs.List.{suffix_len}
use Rattle.glk_ar.proofs.headers.trim.Given as goal

abbrev pub invariant-loop-n : goal.invariant-loop-n
invariant-loop-n l = (l.n ≤ length l.field) × (l.n + suffix_len (λ x. eqb x 32) l.field ≡ length l.field + suffix_len (λ x. eqb x 32) (take l.n l.field))

abbrev pub decreases-loop-n : goal.decreases-loop-n
decreases-loop-n l = l.n
