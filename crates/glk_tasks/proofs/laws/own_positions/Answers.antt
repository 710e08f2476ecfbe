use Rattle.glk_tasks.proofs.Positions.{own_positions}
use Rattle.glk_tasks.proofs.laws.own_positions.Goals as goal

pub returns : goal.returns
returns c = own_positions
