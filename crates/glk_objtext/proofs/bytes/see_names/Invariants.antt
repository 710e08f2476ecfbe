use Rattle.std.proofs.Common.{take, All}
use Rattle.hex.specs.Hex.{IsBytes}
use Rattle.glk_objdesc.specs.declared.desc.RefNameDesc.{RefNameDesc}
use Rattle.glk_objtext.proofs.bytes.see_names.Given as goal

abbrev pub invariant-loop-named : goal.invariant-loop-named
invariant-loop-named l = All (λ (r : RefNameDesc). IsBytes r.name) (take l.named-index l.names)
