use Rattle.glk_obj.specs.Fields.{HasField, FailsIn}
use Rattle.glk_obj.proofs.LeastOffsets.{NoneBelow}
use Rattle.glk_obj.proofs.fields.first_failing.Given as goal

abbrev pub invariant-loop-t : goal.invariant-loop-t
invariant-loop-t g l = NoneBelow (HasField l.field) (FailsIn l.bytes l.field (g.T.FieldTest.bad l.bytes)) l.t
