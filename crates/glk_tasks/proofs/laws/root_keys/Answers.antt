use Rattle.glk_tasks.proofs.Roots.{root_keys}
use Rattle.glk_tasks.proofs.laws.root_keys.Goals as goal

pub returns : goal.returns
returns c = root_keys
