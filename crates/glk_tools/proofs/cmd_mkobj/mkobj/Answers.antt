use Rattle.glk_tools.proofs.MkobjSteps.{complete}
use Rattle.glk_tools.proofs.cmd_mkobj.mkobj.Goals as goal

pub returns-clause-must : goal.returns-clause-must
returns-clause-must g c = complete _ _ c.args.path.now c.args.out.now c.make_and_write.result c.make_and_write.ensures
