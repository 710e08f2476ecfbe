use Rattle.std.proofs.Common.{◌<◌, ◌∙◌, length, ap, arith}
use Rattle.glk_order.specs.declared.edges.Edge.{Edge}
use Rattle.glk_order.specs.declared.edges.End.TheVariants.{Target}
use Rattle.glk_order.specs.Chains.{last_edge}
use Rattle.glk_order.proofs.EdgeChains.{chain_edge, next_lower, next_named}
use Rattle.glk_order.proofs.Closing.{start_closing, some_open, close_more, end_closing}
use Rattle.glk_order.proofs.order.close_edges.Goals as goal

pub loop-at-init : goal.loop-at-init
loop-at-init c =
    let users = c.args.users.now in
    let inside : c.args.task < length c.args.listed.now = let task = c.requires.task in let marks = c.requires.marks in omega (arith, task, marks) in
    start_closing (length users.lasts.items) users.edges.now c.args.task c.args.listed.now c.args.open_counts.now c.args.ready.now c.last-at.result
    inside c.requires.unlisted c.requires.none_open c.requires.counts c.requires.closed c.requires.ready
    (c.last-at.ensures ∙ ap (λ e. last_edge e users.edges.now c.args.task (length users.edges.now)) c.requires.ends)

pub edge-requires : goal.edge-requires
edge-requires c = (chain_edge Target c.args.users.now.edges.now c.args.task c.loop-at.at c.in-Some.edge c.loop-at.invariant.chain c.in-Some.is).0

pub close_edge-requires-clause-some : goal.close_edge-requires-clause-some
close_edge-requires-clause-some c =
    let users = c.args.users.now in
    let inside : c.args.task < length c.args.listed.now = let task = c.requires.task in let marks = c.requires.marks in omega (arith, task, marks) in
    some_open (length users.lasts.items) users.edges.now c.args.task c.args.listed.now c.loop-at.open_counts c.loop-at.ready c.loop-at.at c.in-Some.edge c.edge.result.task
    c.loop-at.invariant c.in-Some.is inside c.requires.unlisted (ap (λ (x : Edge). x.task) c.edge.ensures.value) c.edge.ensures.task

pub before-at-requires : goal.before-at-requires
before-at-requires c = (chain_edge Target c.args.users.now.edges.now c.args.task c.loop-at.at c.in-Some.edge c.loop-at.invariant.chain c.in-Some.is).0

pub loop-at-smaller : goal.loop-at-smaller
loop-at-smaller c =
    let edges = c.args.users.now.edges.now in
    let found = chain_edge Target edges c.args.task c.loop-at.at c.in-Some.edge c.loop-at.invariant.chain c.in-Some.is in
    let next_is = next_named Target c.args.users.now.end edges c.args.task c.in-Some.edge c.before-at.result c.requires.ends found.1 c.before-at.ensures in
    next_lower Target edges c.args.task c.loop-at.at c.before-at.result c.in-Some.edge c.in-Some.is next_is

pub loop-at-preserved : goal.loop-at-preserved
loop-at-preserved c =
    let users = c.args.users.now in
    let inside : c.args.task < length c.args.listed.now = let task = c.requires.task in let marks = c.requires.marks in omega (arith, task, marks) in
    let found = chain_edge Target users.edges.now c.args.task c.loop-at.at c.in-Some.edge c.loop-at.invariant.chain c.in-Some.is in
    let next_is = next_named Target users.end users.edges.now c.args.task c.in-Some.edge c.before-at.result c.requires.ends found.1 c.before-at.ensures in
    close_more (length users.lasts.items) users.edges.now c.args.task c.args.listed.now c.loop-at.open_counts c.close_edge.new.open_counts c.loop-at.ready c.close_edge.new.ready c.loop-at.at c.before-at.result c.in-Some.edge c.edge.result.task
    c.loop-at.invariant c.in-Some.is next_is inside c.requires.unlisted (ap (λ (x : Edge). x.task) c.edge.ensures.value) c.edge.ensures.task c.in_ok-close_edge.ensures

pub returns-clause-counts : goal.returns-clause-counts
returns-clause-counts c =
    let users = c.args.users.now in
    end_closing (length users.lasts.items) users.edges.now c.args.task c.args.listed.now c.loop-at.open_counts c.loop-at.ready c.loop-at.at c.loop-at.invariant c.in_default.is
