use Rattle.std.proofs.Common.{arith}
use Rattle.glk_obj.proofs.RelocOffsets.{reloc_room}
use Rattle.glk_obj.proofs.definitions.stray_reloc_of.Goals as goal

pub is_field_outside-requires-clause-inside : goal.is_field_outside-requires-clause-inside
is_field_outside-requires-clause-inside c = omega (arith, reloc_room c.args.bytes.now c.args.i c.loop-k.k c.requires.layout c.requires.tables c.requires.index (omega arith))
