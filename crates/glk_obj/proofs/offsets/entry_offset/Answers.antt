use Rattle.std.proofs.Common.{arith}
use Rattle.glk_obj.specs.Views.{number_of}
use Rattle.glk_obj.proofs.TableOffsets.{entry_room}
use Rattle.glk_obj.proofs.offsets.entry_offset.Goals as goal

pub returns-clause-room : goal.returns-clause-room
returns-clause-room c = omega (arith, entry_room c.args.bytes.now (number_of c.args.table) c.args.i c.requires.layout c.requires.tables c.requires.table c.requires.index)
