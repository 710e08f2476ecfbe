use Rattle.std.proofs.Common.{arith}
use Rattle.glk_objdesc.specs.Typed.{IsTypedReloc}
use Rattle.glk_objdesc.proofs.Lists.{all_more, all_whole}
use Rattle.glk_objdesc.proofs.typed.see_relocs.Goals as goal

pub loop-reloc-preserved : goal.loop-reloc-preserved
loop-reloc-preserved c = all_more IsTypedReloc c.args.relocs.now c.loop-reloc.reloc-index _ (omega arith) c.loop-reloc.invariant c.see_reloc.ensures

pub returns : goal.returns
returns c = all_whole IsTypedReloc c.args.relocs.now c.loop-reloc.reloc-index (omega arith) c.loop-reloc.invariant
