use Rattle.glk_pctab.proofs.AddLemmas.{file_none}
use Rattle.glk_pctab.proofs.lists.add_file.Goals as goal

pub returns-in-None : goal.returns-in-None
returns-in-None c = file_none c.args.pool.now c.args.entry c.in-None.is
