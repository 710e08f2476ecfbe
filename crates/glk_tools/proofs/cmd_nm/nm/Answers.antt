use Rattle.glk_tools.proofs.NmSteps.{complete}
use Rattle.glk_tools.proofs.cmd_nm.nm.Goals as goal

pub returns-clause-must : goal.returns-clause-must
returns-clause-must g c = complete _ _ _ _ c.args.opts.now c.args.path.now c.read_and_list.result c.read_and_list.ensures
