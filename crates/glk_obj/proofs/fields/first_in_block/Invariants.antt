use Rattle.std.proofs.Common.{◌<◌, ℕ}
use Rattle.glk_obj.specs.Fields.{field_offset}
use Rattle.glk_obj.proofs.fields.first_in_block.Given as goal

abbrev pub invariant-loop-i : goal.invariant-loop-i
invariant-loop-i g l = (j : ℕ) → j < l.i → g.T.FieldTest.bad l.bytes (field_offset l.bytes l.field l.t j) → ⊥
