use Rattle.std.proofs.Common.{◌<◌, ◌^◌, length}
use Rattle.glk_init.specs.Ranks.{AreEdgesBelow}
use Rattle.glk_init.proofs.ranks.ranked_edges.Given as goal

abbrev pub invariant-loop-rank : goal.invariant-loop-rank
invariant-loop-rank g l =
    AreEdgesBelow (g.P.InitProgram.graph l.program) l.ranked l.rank l.edges.items × (length l.edges.items < 2 ^ 32)
