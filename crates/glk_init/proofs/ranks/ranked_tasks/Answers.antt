use Rattle.std.proofs.lemmas.Result.{IfOk-weaker}
use Rattle.glk_init.specs.Graph.{InitGraph}
use Rattle.glk_init.specs.Ranks.{AreRanked}
use Rattle.glk_init.proofs.RankLemmas.{ranked_of_sort}
use Rattle.glk_init.proofs.ranks.ranked_tasks.Goals as goal

pub returns : goal.returns
returns g c =
    let w : InitGraph = g.P.InitProgram.graph c.args.program.now in
    IfOk-weaker c.keys_of.result _ (λ ranked. AreRanked w c.args.tasks.now ranked.items)
    (λ list is. ranked_of_sort w c.args.tasks.now list.items c.in_ok-named.named.items c.sort.new.self.items c.in_ok-named.ensures c.sort.ensures.permutation c.in_ok-sort.ensures.sorted (rw c.as_slice.ensures.value at is))
    c.keys_of.ensures
