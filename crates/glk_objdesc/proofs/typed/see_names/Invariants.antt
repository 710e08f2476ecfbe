use Rattle.std.proofs.Common.{take, All}
use Rattle.glk_objdesc.specs.Typed.{IsTypedName}
use Rattle.glk_objdesc.proofs.typed.see_names.Given as goal

abbrev pub invariant-loop-named : goal.invariant-loop-named
invariant-loop-named l = All IsTypedName (take l.named-index l.names)
