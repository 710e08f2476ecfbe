use Rattle.std.proofs.Common.{arith}
use Rattle.glk_obj.specs.Fields.{field_offset}
use Rattle.glk_obj.proofs.FieldOffsets.{field_inside}
use Rattle.glk_obj.proofs.fields.field_offset.Goals as goal

pub returns-clause-room : goal.returns-clause-room
unfolding field_offset
returns-clause-room c = let room = field_inside c.args.bytes.now c.args.field c.args.t c.args.i c.requires.layout c.requires.block c.requires.index in grind arith
