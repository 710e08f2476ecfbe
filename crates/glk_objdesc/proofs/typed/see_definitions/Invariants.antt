use Rattle.std.proofs.Common.{take, All}
use Rattle.glk_objdesc.specs.Typed.{IsTypedDef}
use Rattle.glk_objdesc.proofs.typed.see_definitions.Given as goal

abbrev pub invariant-loop-def : goal.invariant-loop-def
invariant-loop-def l = All IsTypedDef (take l.def-index l.defs)
