use Rattle.std.proofs.Common.{take, All}
use Rattle.glk_objdesc.specs.Typed.{IsTypedFlags}
use Rattle.glk_objdesc.proofs.typed.see_ref_flags.Given as goal

abbrev pub invariant-loop-record : goal.invariant-loop-record
invariant-loop-record l = All IsTypedFlags (take l.record-index l.flags)
