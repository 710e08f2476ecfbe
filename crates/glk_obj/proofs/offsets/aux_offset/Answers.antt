use Rattle.std.proofs.Common.{arith}
use Rattle.glk_obj.proofs.RelocOffsets.{aux_room}
use Rattle.glk_obj.proofs.Laws.{aux_target}
use Rattle.glk_obj.proofs.offsets.aux_offset.Goals as goal

pub returns-clause-room : goal.returns-clause-room
returns-clause-room c = omega (arith, aux_room c.args.bytes.now c.args.i c.args.k c.requires.layout c.requires.tables c.requires.definition c.requires.index)

pub returns-clause-target : goal.returns-clause-target
returns-clause-target c = aux_target c.args.bytes.now c.args.i c.args.k c.requires.object c.requires.tables c.requires.definition c.requires.index
