use Rattle.glk_obj.specs.Views.{number_of}
use Rattle.glk_obj.proofs.BlockOrder.{record_inside}
use Rattle.glk_obj.proofs.offsets.record_offset.Goals as goal

pub returns-clause-room : goal.returns-clause-room
returns-clause-room c = rw (c.requires.start, c.width_at.ensures.value, c.number.ensures.value) (record_inside c.args.bytes.now (number_of c.args.block) c.args.k c.requires.layout c.requires.below c.requires.fixed c.requires.index)
