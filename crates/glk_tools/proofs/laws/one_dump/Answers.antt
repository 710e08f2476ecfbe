use Rattle.glk_tools.proofs.DumpSteps.{one_dump}
use Rattle.glk_tools.proofs.laws.one_dump.Goals as goal

pub returns : goal.returns
returns c = one_dump
