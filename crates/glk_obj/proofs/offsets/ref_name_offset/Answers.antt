use Rattle.std.proofs.Common.{arith}
use Rattle.glk_obj.proofs.Laws.{ref_name_room, ref_name_inside}
use Rattle.glk_obj.proofs.offsets.ref_name_offset.Goals as goal

pub returns-clause-room : goal.returns-clause-room
returns-clause-room c = omega (arith, ref_name_room c.args.bytes.now c.args.k c.requires.layout c.requires.index)

pub returns-clause-inside : goal.returns-clause-inside
returns-clause-inside c = rw c.requires.start (ref_name_inside c.args.bytes.now c.args.k c.requires.object c.requires.index)
