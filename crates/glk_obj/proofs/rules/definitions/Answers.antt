use Rattle.std.proofs.Common.{arith}
use Rattle.glk_obj.proofs.SymbolOffsets.{definitions_fill}
use Rattle.glk_obj.proofs.rules.definitions.Goals as goal

pub overflow_sub-result : goal.overflow_sub-result
overflow_sub-result c = omega (arith, definitions_fill c.args.bytes.now c.requires)

pub returns : goal.returns
returns c = omega (arith, definitions_fill c.args.bytes.now c.requires)
