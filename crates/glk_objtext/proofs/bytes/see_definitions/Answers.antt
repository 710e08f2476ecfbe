use Rattle.std.proofs.Common.{arith}
use Rattle.glk_objdesc.proofs.Lists.{all_more_item, all_whole}
use Rattle.glk_objtext.specs.Bytes.{HasBytesDef}
use Rattle.glk_objtext.proofs.bytes.see_definitions.Goals as goal

pub loop-def-preserved : goal.loop-def-preserved
loop-def-preserved c = all_more_item HasBytesDef c.args.defs.now c.loop-def.def-index c.def-item.result c.def-item.is (omega arith) c.loop-def.invariant c.see_definition.ensures

pub returns : goal.returns
returns c = all_whole HasBytesDef c.args.defs.now c.loop-def.def-index (omega arith) c.loop-def.invariant
