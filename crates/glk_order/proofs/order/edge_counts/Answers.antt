use Rattle.std.proofs.Common.{◌≡◌, ◌<◌, ◌+◌, ◌∙◌, length, get_or, set, refl, ap, arith}
use Rattle.std.proofs.lemmas.List.{get_or_default}
use Rattle.glk_order.specs.Chains.{no_edge, edge_at}
use Rattle.glk_order.proofs.Starts.{counted_few, more_counted, all_counted}
use Rattle.glk_order.proofs.order.edge_counts.Goals as goal

pub overflow_add-index_mut : goal.overflow_add-index_mut
overflow_add-index_mut c =
    let edges = c.args.edges.now in
    let i = c.loop-edge.edge-index in
    let counts = c.loop-edge.counts.items in
    let here : i < length edges = omega arith in
    let own = (edge_at edges i).task in
    let inside : own < c.args.count = (c.requires.inside i no_edge here).0 in
    let size : length counts ≡ c.args.count = c.loop-edge.invariant.size in
    let read : c.index_mut.result.now ≡ get_or counts own 0 = c.index_mut.ensures.value ∙ get_or_default counts own _ 0 (omega (arith, size, inside)) in
    let few = counted_few c.args.count edges i counts own c.loop-edge.invariant inside in
    let most = c.requires.few in
    omega (arith, read, few, here, most)

pub loop-edge-preserved : goal.loop-edge-preserved
loop-edge-preserved c =
    let edges = c.args.edges.now in
    let i = c.loop-edge.edge-index in
    let counts = c.loop-edge.counts.items in
    let here : i < length edges = omega arith in
    let own = (edge_at edges i).task in
    let inside : own < c.args.count = (c.requires.inside i no_edge here).0 in
    let size : length counts ≡ c.args.count = c.loop-edge.invariant.size in
    let read : c.index_mut.result.now ≡ get_or counts own 0 = c.index_mut.ensures.value ∙ get_or_default counts own _ 0 (omega (arith, size, inside)) in
    more_counted c.args.count edges i counts (set counts own (c.index_mut.result.now + 1)) own c.loop-edge.invariant here refl inside (ap (λ v. set counts own (v + 1)) read)

pub returns : goal.returns
returns c = λ listed none. all_counted c.args.count c.args.edges.now c.loop-edge.edge-index c.loop-edge.counts.items listed c.loop-edge.invariant (omega arith) none
