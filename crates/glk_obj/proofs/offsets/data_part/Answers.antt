use Rattle.std.proofs.Common.{arith}
use Rattle.glk_obj.proofs.RelocOffsets.{data_room}
use Rattle.glk_obj.proofs.Laws.{data_within}
use Rattle.glk_obj.proofs.offsets.data_part.Goals as goal

pub slice_bounds-result-end : goal.slice_bounds-result-end
slice_bounds-result-end c = omega (arith, data_room c.args.bytes.now c.args.i c.requires.layout c.requires.tables c.requires.index)

pub returns-clause-within : goal.returns-clause-within
returns-clause-within c = λ content. rw (c.requires.start, c.requires.from, c.requires.to) (data_within c.args.bytes.now c.args.i c.requires.object c.requires.index content)
