use Rattle.std.proofs.Common.{rules, ◌<◌, length, map, slice_index, arith}
use Rattle.std.proofs.lemmas.List.Sorted.{All-permutation, length_permutation}
use Rattle.glk_init.specs.Graph.{InitGraph}
use Rattle.glk_init.proofs.OrderLemmas.{Ranked, order_of_ranks, no_cycle_of_ranks, ranks_inside}
use Rattle.glk_init.proofs.RankLemmas.{faults_of_ranks, ranked_distinct, ranked_is}
use Rattle.glk_init.proofs.order.schedule.Goals as goal

pub ranked_edges-requires-clause-keys : goal.ranked_edges-requires-clause-keys
ranked_edges-requires-clause-keys g c =
    let w : InitGraph = g.P.InitProgram.graph c.args.program.now in
    rw c.as_slice-by_rank.ensures.value (All-permutation (λ k. k < w.keys) c.args.tasks.now c.in_ok-ranked.ranked.items c.in_ok-ranked.ensures.same c.requires.keys)

pub ranked_edges-requires-clause-distinct : goal.ranked_edges-requires-clause-distinct
ranked_edges-requires-clause-distinct g c =
    rw c.as_slice-by_rank.ensures.value (ranked_distinct c.args.tasks.now c.in_ok-ranked.ranked.items c.requires.tasks.rising c.in_ok-ranked.ensures.same)

pub ranked_edges-requires-clause-few : goal.ranked_edges-requires-clause-few
ranked_edges-requires-clause-few g c =
    let e = length_permutation c.args.tasks.now c.in_ok-ranked.ranked.items c.in_ok-ranked.ensures.same in
    rw c.as_slice-by_rank.ensures.value (omega (arith, e, c.requires.few))

pub list_tasks-requires-clause-keys : goal.list_tasks-requires-clause-keys
list_tasks-requires-clause-keys g c =
    let w : InitGraph = g.P.InitProgram.graph c.args.program.now in
    rw c.as_slice-by_rank.ensures.value (All-permutation (λ k. k < w.keys) c.args.tasks.now c.in_ok-ranked.ranked.items c.in_ok-ranked.ensures.same c.requires.keys)

pub list_tasks-requires-clause-inside : goal.list_tasks-requires-clause-inside
list_tasks-requires-clause-inside g c =
    let w : InitGraph = g.P.InitProgram.graph c.args.program.now in
    let r : Ranked w c.args.root c.in_ok-ranked.ranked.items c.in_ok-edges.edges.items
    = ranked_is w c.args.root c.args.tasks.now c.in_ok-ranked.ranked.items c.in_ok-edges.edges.items c.requires.tasks c.requires.whole c.in_ok-ranked.ensures (rw c.as_slice-by_rank.ensures.value at c.in_ok-edges.ensures.edges) in
    rw (c.as_slice-by_rank.ensures.value, c.as_slice-in-Ok.ensures.value) (ranks_inside r c.in-Ok.order.items (rw (c.as_slice.ensures.value, c.as_slice-by_rank.ensures.value) at c.in-Ok.ensures.order).in_order)

pub returns-in-Ok-clause-list : goal.returns-in-Ok-clause-list
returns-in-Ok-clause-list g c =
    let w : InitGraph = g.P.InitProgram.graph c.args.program.now in
    let r : Ranked w c.args.root c.in_ok-ranked.ranked.items c.in_ok-edges.edges.items
    = ranked_is w c.args.root c.args.tasks.now c.in_ok-ranked.ranked.items c.in_ok-edges.edges.items c.requires.tasks c.requires.whole c.in_ok-ranked.ensures (rw c.as_slice-by_rank.ensures.value at c.in_ok-edges.ensures.edges) in
    (map (slice_index c.in_ok-ranked.ranked.items) c.in-Ok.order.items, order_of_ranks r c.in-Ok.order.items (rw (c.as_slice.ensures.value, c.as_slice-by_rank.ensures.value) at c.in-Ok.ensures.order), (rw (c.as_slice-by_rank.ensures.value, c.as_slice-in-Ok.ensures.value) at c.in_ok-list_tasks-in-Ok.ensures))

pub returns-in-Ok-clause-no_cycle : goal.returns-in-Ok-clause-no_cycle
returns-in-Ok-clause-no_cycle g c =
    let w : InitGraph = g.P.InitProgram.graph c.args.program.now in
    let r : Ranked w c.args.root c.in_ok-ranked.ranked.items c.in_ok-edges.edges.items
    = ranked_is w c.args.root c.args.tasks.now c.in_ok-ranked.ranked.items c.in_ok-edges.edges.items c.requires.tasks c.requires.whole c.in_ok-ranked.ensures (rw c.as_slice-by_rank.ensures.value at c.in_ok-edges.ensures.edges) in
    no_cycle_of_ranks r (rw c.as_slice.ensures.value at c.in-Ok.ensures.no_cycle)

pub task_fault-requires : goal.task_fault-requires
task_fault-requires g c =
    let w : InitGraph = g.P.InitProgram.graph c.args.program.now in
    let r : Ranked w c.args.root c.in_ok-ranked.ranked.items c.in_ok-edges.edges.items
    = ranked_is w c.args.root c.args.tasks.now c.in_ok-ranked.ranked.items c.in_ok-edges.edges.items c.requires.tasks c.requires.whole c.in_ok-ranked.ensures (rw c.as_slice-by_rank.ensures.value at c.in_ok-edges.ensures.edges) in
    rw c.as_slice-by_rank.ensures.value (faults_of_ranks w c.args.root c.in_ok-ranked.ranked.items c.in_ok-edges.edges.items r c.in-Err.why (rw c.as_slice.ensures.value at c.in-Err.ensures.cycle)).0

pub overflow_cast-by_rank : goal.overflow_cast-by_rank
overflow_cast-by_rank g c =
    let e = length_permutation c.args.tasks.now c.in_ok-ranked.ranked.items c.in_ok-ranked.ensures.same in
    let few : length c.as_slice-by_rank.result.now < 4294967296 = rw c.as_slice-by_rank.ensures.value (omega (arith, e, c.requires.few)) in
    search (rules, few)

pub returns-clause-cycle : goal.returns-clause-cycle
returns-clause-cycle g c =
    let w : InitGraph = g.P.InitProgram.graph c.args.program.now in
    let r : Ranked w c.args.root c.in_ok-ranked.ranked.items c.in_ok-edges.edges.items
    = ranked_is w c.args.root c.args.tasks.now c.in_ok-ranked.ranked.items c.in_ok-edges.edges.items c.requires.tasks c.requires.whole c.in_ok-ranked.ensures (rw c.as_slice-by_rank.ensures.value at c.in_ok-edges.ensures.edges) in
    rw (c.task_fault.ensures, c.as_slice-by_rank.ensures.value) (faults_of_ranks w c.args.root c.in_ok-ranked.ranked.items c.in_ok-edges.edges.items r c.in-Err.why (rw c.as_slice.ensures.value at c.in-Err.ensures.cycle)).1
