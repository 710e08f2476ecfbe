use Rattle.std.proofs.Common.{arith}
use Rattle.glk_obj.proofs.SymbolOffsets.{symbol_room}
use Rattle.glk_obj.proofs.offsets.symbol_offset.Goals as goal

pub returns-clause-room : goal.returns-clause-room
returns-clause-room c = omega (arith, symbol_room c.args.bytes.now c.args.i c.requires.layout c.requires.index)
