use Rattle.std.proofs.Common.{arith}
use Rattle.glk_objdesc.specs.Typed.{IsTypedFlags}
use Rattle.glk_objdesc.proofs.Lists.{all_more, all_whole}
use Rattle.glk_objdesc.proofs.typed.see_ref_flags.Goals as goal

pub loop-record-preserved : goal.loop-record-preserved
loop-record-preserved c = all_more IsTypedFlags c.args.flags.now c.loop-record.record-index _ (omega arith) c.loop-record.invariant c.see_flags.ensures

pub returns : goal.returns
returns c = all_whole IsTypedFlags c.args.flags.now c.loop-record.record-index (omega arith) c.loop-record.invariant
