use Rattle.glk_gen_laws.proofs.Lists.{lists_all}
use Rattle.glk_gen_laws.proofs.lists_packages.Goals as goal

pub returns : goal.returns
returns c = lists_all c.args.n c.requires
