use Rattle.std.proofs.Common.{arith}
use Rattle.glk_obj.specs.Views.{number_of}
use Rattle.glk_obj.proofs.offsets.entries.Goals as goal

pub returns-clause-order : goal.returns-clause-order
returns-clause-order c = let rises = c.requires.tables.rises (number_of c.args.table) c.args.i c.requires.table c.requires.index in grind arith
