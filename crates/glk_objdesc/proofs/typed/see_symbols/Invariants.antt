use Rattle.std.proofs.Common.{take, All}
use Rattle.glk_objdesc.specs.Typed.{IsTypedSymbol}
use Rattle.glk_objdesc.proofs.typed.see_symbols.Given as goal

abbrev pub invariant-loop-symbol : goal.invariant-loop-symbol
invariant-loop-symbol l = All IsTypedSymbol (take l.symbol-index l.symbols)
