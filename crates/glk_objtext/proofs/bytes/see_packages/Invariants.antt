use Rattle.std.proofs.Common.{take, All}
use Rattle.glk_objtext.specs.Bytes.{HasBytesPackage}
use Rattle.glk_objtext.proofs.bytes.see_packages.Given as goal

abbrev pub invariant-loop-entry : goal.invariant-loop-entry
invariant-loop-entry l = All HasBytesPackage (take l.entry-index l.packages)
