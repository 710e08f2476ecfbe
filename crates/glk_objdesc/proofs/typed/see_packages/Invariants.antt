use Rattle.std.proofs.Common.{take, All}
use Rattle.glk_objdesc.specs.Typed.{IsTypedPackage}
use Rattle.glk_objdesc.proofs.typed.see_packages.Given as goal

abbrev pub invariant-loop-entry : goal.invariant-loop-entry
invariant-loop-entry l = All IsTypedPackage (take l.entry-index l.packages)
