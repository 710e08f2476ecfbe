use Rattle.std.proofs.Common.{rules, ◌≡◌, ◌++◌, ◌+◌, ℕ, List, slice_index, subst, sym, arith}
use Rattle.glk_init.specs.Graph.{InitGraph}
use Rattle.glk_init.specs.Tasks.{awaited}
use Rattle.glk_init.specs.Ranks.{AreEdgesBelow, rank_edges}
use Rattle.glk_init.proofs.EdgeLemmas.{edges_more, edges_all}
use Rattle.glk_init.proofs.ranks.ranked_edges.Goals as goal

pub loop-rank-preserved : goal.loop-rank-preserved
loop-rank-preserved g c =
    let w : InitGraph = g.P.InitProgram.graph c.args.program.now in
    let ranked : List ℕ = c.args.ranked.now in
    let n : ℕ = c.loop-rank.rank in
    let table = c.in_ok-ranks.ensures in
    let is : c.push_edges.new.edges.items ≡ c.loop-rank.edges.items ++ rank_edges c.in_ok-ranks.ranks n (awaited w (slice_index ranked n)) = search (rules, c.in_ok-edges.ensures.value, c.in_ok-push_edges.ensures.value) in
    (subst (AreEdgesBelow w ranked (n + 1)) (sym is) (edges_more w ranked c.in_ok-ranks.ranks n c.loop-rank.edges.items c.loop-rank-test.true table c.loop-rank.invariant.0), c.in_ok-push_edges.ensures.few)

pub returns-clause-edges : goal.returns-clause-edges
returns-clause-edges g c =
    let w : InitGraph = g.P.InitProgram.graph c.args.program.now in
    edges_all w c.args.ranked.now c.loop-rank.rank c.loop-rank.edges.items (omega (arith, c.loop-rank-test.false, c.loop-rank.auto.rank-end)) c.loop-rank.invariant.0
