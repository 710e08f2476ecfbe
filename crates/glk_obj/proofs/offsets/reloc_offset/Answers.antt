use Rattle.std.proofs.Common.{arith}
use Rattle.glk_obj.proofs.RelocOffsets.{reloc_room}
use Rattle.glk_obj.proofs.Laws.{reloc_target, reloc_within}
use Rattle.glk_obj.proofs.offsets.reloc_offset.Goals as goal

pub returns-clause-room : goal.returns-clause-room
returns-clause-room c = omega (arith, reloc_room c.args.bytes.now c.args.i c.args.k c.requires.layout c.requires.tables c.requires.definition c.requires.index)

pub returns-clause-target : goal.returns-clause-target
returns-clause-target c = reloc_target c.args.bytes.now c.args.i c.args.k c.requires.object c.requires.tables c.requires.definition c.requires.index

pub returns-clause-within : goal.returns-clause-within
returns-clause-within c = λ content. reloc_within c.args.bytes.now c.args.i c.args.k c.requires.object c.requires.definition c.requires.index content
