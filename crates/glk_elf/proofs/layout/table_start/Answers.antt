use Rattle.std.proofs.Common.{arith}
use Rattle.glk_elf.proofs.layout.table_start.Goals as goal

pub returns : goal.returns
returns c = let least = c.least_multiple.ensures in omega (arith, least.multiple, least.above, least.least)
