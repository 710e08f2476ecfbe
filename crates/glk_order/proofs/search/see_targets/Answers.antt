use Rattle.std.proofs.Common.{◌∙◌, length, ap, arith}
use Rattle.glk_order.specs.declared.edges.Edge.{Edge}
use Rattle.glk_order.specs.declared.edges.End.TheVariants.{Task}
use Rattle.glk_order.specs.Chains.{last_edge}
use Rattle.glk_order.proofs.EdgeChains.{chain_edge, next_lower, next_named}
use Rattle.glk_order.proofs.Searches.{start_seeing, see_more, end_seeing}
use Rattle.glk_order.proofs.search.see_targets.Goals as goal

pub loop-at-init : goal.loop-at-init
loop-at-init c =
    let edges = c.args.needs.now.edges.now in
    start_seeing edges c.args.task c.args.seen.now c.args.work.now.items c.last-at.result (c.last-at.ensures ∙ ap (λ e. last_edge e edges c.args.task (length edges)) c.requires.ends)

pub edge-requires : goal.edge-requires
edge-requires c = (chain_edge Task c.args.needs.now.edges.now c.args.task c.loop-at.at c.in-Some.edge c.loop-at.invariant.chain c.in-Some.is).0

pub before-at-requires : goal.before-at-requires
before-at-requires c = (chain_edge Task c.args.needs.now.edges.now c.args.task c.loop-at.at c.in-Some.edge c.loop-at.invariant.chain c.in-Some.is).0

pub loop-at-smaller : goal.loop-at-smaller
loop-at-smaller c =
    let edges = c.args.needs.now.edges.now in
    let found = chain_edge Task edges c.args.task c.loop-at.at c.in-Some.edge c.loop-at.invariant.chain c.in-Some.is in
    let next_is = next_named Task c.args.needs.now.end edges c.args.task c.in-Some.edge c.before-at.result c.requires.ends found.1 c.before-at.ensures in
    next_lower Task edges c.args.task c.loop-at.at c.before-at.result c.in-Some.edge c.in-Some.is next_is

pub loop-at-preserved : goal.loop-at-preserved
loop-at-preserved c =
    let edges = c.args.needs.now.edges.now in
    let found = chain_edge Task edges c.args.task c.loop-at.at c.in-Some.edge c.loop-at.invariant.chain c.in-Some.is in
    let next_is = next_named Task c.args.needs.now.end edges c.args.task c.in-Some.edge c.before-at.result c.requires.ends found.1 c.before-at.ensures in
    let target = c.edge.ensures.target in
    let size = c.requires.size in
    let same = c.loop-at.invariant.size in
    see_more edges c.args.task c.args.seen.now c.loop-at.seen c.see_target.new.seen c.args.work.now.items c.loop-at.work.items c.see_target.new.work.items c.loop-at.at c.before-at.result c.in-Some.edge c.edge.result.target
    c.loop-at.invariant c.in-Some.is next_is (ap (λ (x : Edge). x.target) c.edge.ensures.value) (omega (arith, target, size, same)) c.in_ok-see_target.ensures

pub returns : goal.returns
returns c = end_seeing c.args.needs.now.edges.now c.args.task c.args.seen.now c.loop-at.seen c.args.work.now.items c.loop-at.work.items c.loop-at.at c.loop-at.invariant c.in_default.is
