use Rattle.glk_obj.proofs.Laws.{name_inside}
use Rattle.glk_obj.proofs.offsets.named_symbol_offset.Goals as goal

pub returns-clause-inside : goal.returns-clause-inside
returns-clause-inside c = rw c.symbol_offset.ensures.value (name_inside c.args.bytes.now c.args.i c.requires.object c.requires.layout c.requires.index)
