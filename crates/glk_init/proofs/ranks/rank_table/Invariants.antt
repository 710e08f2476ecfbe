use Rattle.glk_init.specs.Ranks.{IsRankTable}
use Rattle.glk_init.proofs.ranks.rank_table.Given as goal

abbrev pub invariant-loop-rank : goal.invariant-loop-rank
invariant-loop-rank l = IsRankTable l.ranked l.rank l.ranks
