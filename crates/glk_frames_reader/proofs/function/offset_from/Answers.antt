use Rattle.std.proofs.Common.{◌+◌, arith}
use Rattle.glk_frames_reader.proofs.OffsetLemmas.{none_from}
use Rattle.glk_frames_reader.proofs.function.offset_from.Goals as goal

pub returns-then-address-entry-2 : goal.returns-then-address-entry-2
returns-then-address-entry-2 c = none_from c.ranges_decide_values.ensures.beyond c.args.pc (c.args.text + c.args.start) (omega arith)
