use Rattle.glk_tools.proofs.DumpSteps.{complete}
use Rattle.glk_tools.proofs.cmd_dump.dump.Goals as goal

pub returns-clause-must : goal.returns-clause-must
returns-clause-must g c = complete _ _ _ _ c.args.path.now c.read_and_print.result c.read_and_print.ensures
