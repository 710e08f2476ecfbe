use Rattle.std.proofs.Common.{arith}
use Rattle.glk_objdesc.proofs.Lists.{all_more_item, all_whole}
use Rattle.glk_objtext.specs.Bytes.{HasBytesPackage}
use Rattle.glk_objtext.proofs.bytes.see_packages.Goals as goal

pub loop-entry-preserved : goal.loop-entry-preserved
loop-entry-preserved c = all_more_item HasBytesPackage c.args.packages.now c.loop-entry.entry-index c.entry-item.result c.entry-item.is (omega arith) c.loop-entry.invariant c.see_package.ensures

pub returns : goal.returns
returns c = all_whole HasBytesPackage c.args.packages.now c.loop-entry.entry-index (omega arith) c.loop-entry.invariant
