use Rattle.glk_tools.proofs.Addr2lineSteps.{complete}
use Rattle.glk_tools.proofs.cmd_addr2line.addr2line.Goals as goal

pub returns-clause-must : goal.returns-clause-must
returns-clause-must g c =
    complete _ _ _ _ _ _ c.args.inline c.args.path.now c.read_and_answer.result c.read_and_answer.ensures
