use Rattle.std.proofs.Common.{take, All}
use Rattle.glk_objdesc.specs.Typed.{IsTypedReloc}
use Rattle.glk_objdesc.proofs.typed.see_relocs.Given as goal

abbrev pub invariant-loop-reloc : goal.invariant-loop-reloc
invariant-loop-reloc l = All IsTypedReloc (take l.reloc-index l.relocs)
