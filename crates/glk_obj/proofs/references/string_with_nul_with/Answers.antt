use Rattle.std.proofs.Common.{arith}
use Rattle.glk_obj.proofs.references.string_with_nul_with.Goals as goal

pub first_failing-requires-clause-can : goal.first_failing-requires-clause-can
first_failing-requires-clause-can c = λ at is_field passes. c.requires.before.no 11 at (omega arith) (record { is_field = is_field; bad = passes })
