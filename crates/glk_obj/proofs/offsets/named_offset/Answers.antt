use Rattle.glk_obj.specs.Views.{number_of}
use Rattle.glk_obj.proofs.Laws.{string_inside}
use Rattle.glk_obj.proofs.offsets.named_offset.Goals as goal

pub returns-clause-inside : goal.returns-clause-inside
returns-clause-inside c = rw c.record_offset.ensures.value (string_inside c.args.bytes.now (number_of c.args.block) c.args.k c.requires.object c.requires.named c.requires.index)
