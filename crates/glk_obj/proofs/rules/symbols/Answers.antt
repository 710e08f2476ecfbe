use Rattle.std.proofs.Common.{arith}
use Rattle.glk_obj.proofs.SymbolOffsets.{symbols_fill}
use Rattle.glk_obj.proofs.rules.symbols.Goals as goal

pub overflow_sub-result : goal.overflow_sub-result
overflow_sub-result c = omega (arith, symbols_fill c.args.bytes.now c.requires)

pub returns : goal.returns
returns c = omega (arith, symbols_fill c.args.bytes.now c.requires)
