use Rattle.std.proofs.Common.{arith}
use Rattle.glk_pctab.proofs.records.record_length.Goals as goal

pub returns : goal.returns
returns c = omega (arith, c.pcdata_count.ensures, c.funcdata_count.ensures 0)
