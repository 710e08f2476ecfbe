use Rattle.std.proofs.Common.{arith, refl}
use Rattle.glk_obj.specs.Fields.{field_offset}
use Rattle.glk_obj.proofs.LeastOffsets.{first_record}
use Rattle.glk_obj.proofs.FieldOffsets.{field-rises}
use Rattle.glk_obj.proofs.fields.first_in_block.Goals as goal

pub returns-then-fails : goal.returns-then-fails
returns-then-fails g c = let bad = c.if-fails.ensures.0 refl in
    rw c.field_offset-at.ensures.value (first_record _ (field_offset c.args.bytes.now c.args.field c.args.t) _ c.loop-i.i (field-rises c.args.bytes.now c.args.field c.args.t) (omega arith) (rw c.field_offset-at.ensures.value at bad) c.loop-i.invariant)
