use Rattle.std.proofs.Common.{take, All}
use Rattle.glk_objdesc.specs.Typed.{IsTypedAux}
use Rattle.glk_objdesc.proofs.typed.see_auxes.Given as goal

abbrev pub invariant-loop-aux : goal.invariant-loop-aux
invariant-loop-aux l = All IsTypedAux (take l.aux-index l.auxes)
