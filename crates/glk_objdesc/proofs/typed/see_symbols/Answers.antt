use Rattle.std.proofs.Common.{arith}
use Rattle.glk_objdesc.specs.Typed.{IsTypedSymbol}
use Rattle.glk_objdesc.proofs.Lists.{all_more_item, all_whole}
use Rattle.glk_objdesc.proofs.typed.see_symbols.Goals as goal

pub loop-symbol-preserved : goal.loop-symbol-preserved
loop-symbol-preserved c = all_more_item IsTypedSymbol c.args.symbols.now c.loop-symbol.symbol-index c.symbol-item.result c.symbol-item.is (omega arith) c.loop-symbol.invariant c.see_symbol.ensures

pub returns : goal.returns
returns c = all_whole IsTypedSymbol c.args.symbols.now c.loop-symbol.symbol-index (omega arith) c.loop-symbol.invariant
