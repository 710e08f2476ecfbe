use Rattle.std.proofs.Common.{arith}
use Rattle.glk_obj.proofs.BlockOrder.{table_whole, table_room}
use Rattle.glk_obj.proofs.tables.entries.Goals as goal

pub returns-clause-room : goal.returns-clause-room
returns-clause-room c = omega (arith, table_room c.args.bytes.now c.args.t c.requires.layout c.requires.table)

pub returns-clause-inside : goal.returns-clause-inside
returns-clause-inside c = omega (arith, table_whole c.args.bytes.now c.args.t c.requires.layout c.requires.table)
