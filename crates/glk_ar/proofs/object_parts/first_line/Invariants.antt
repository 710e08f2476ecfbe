use Rattle.std.proofs.Common.{◌≡◌, ◌+◌, drop, eqb}
use Rattle.std.specs.List.{position_or_len}
use Rattle.glk_ar.proofs.object_parts.first_line.Given as goal

abbrev pub invariant-loop-i : goal.invariant-loop-i
invariant-loop-i l = position_or_len (λ x. eqb x 10) l.body ≡ l.i + position_or_len (λ x. eqb x 10) (drop l.i l.body)
