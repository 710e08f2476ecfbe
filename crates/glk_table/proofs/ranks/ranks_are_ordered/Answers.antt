use Rattle.glk_table.proofs.RankOrder.{ranks_ordered}
use Rattle.glk_table.proofs.ranks.ranks_are_ordered.Goals as goal

pub returns : goal.returns
returns c = ranks_ordered
