use Rattle.std.proofs.Common.{take, All}
use Rattle.glk_objtext.specs.Bytes.{HasBytesDef}
use Rattle.glk_objtext.proofs.bytes.see_definitions.Given as goal

abbrev pub invariant-loop-def : goal.invariant-loop-def
invariant-loop-def l = All HasBytesDef (take l.def-index l.defs)
