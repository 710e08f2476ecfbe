use Rattle.std.proofs.Common.{take}
use Rattle.hex.specs.Hex.{IsBytes}
use Rattle.glk_objtext.proofs.bytes.see_items.Given as goal

abbrev pub invariant-loop-byte : goal.invariant-loop-byte
invariant-loop-byte l = IsBytes (take l.byte-index l.bytes)
