use Rattle.std.proofs.Common.{take, All}
use Rattle.hex.specs.Hex.{IsBytes}
use Rattle.glk_objdesc.specs.declared.desc.SymDesc.{SymDesc}
use Rattle.glk_objtext.proofs.bytes.see_references.Given as goal

abbrev pub invariant-loop-symbol : goal.invariant-loop-symbol
invariant-loop-symbol l = All (λ (s : SymDesc). IsBytes s.name) (take l.symbol-index l.symbols)
