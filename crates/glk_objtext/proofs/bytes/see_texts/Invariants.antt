use Rattle.std.proofs.Common.{take, All}
use Rattle.hex.specs.Hex.{IsBytes}
use Rattle.glk_objtext.proofs.bytes.see_texts.Given as goal

abbrev pub invariant-loop-text : goal.invariant-loop-text
invariant-loop-text l = All IsBytes (take l.text-index l.texts)
