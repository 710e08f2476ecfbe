use Rattle.std.proofs.Common.{rules, ◌≡◌, ◌∙◌, true, length, ap, sym, subst}
use Rattle.glk_order.specs.declared.edges.Edge.{Edge}
use Rattle.glk_order.specs.declared.edges.End.TheVariants.{Task}
use Rattle.glk_order.specs.Chains.{edge_at, last_edge}
use Rattle.glk_order.specs.Progress.{is_listed}
use Rattle.glk_order.proofs.EdgeChains.{needs_by, start_chain, start_each, chain_edge, next_chain, next_each, next_lower, next_named, each_target}
use Rattle.glk_order.proofs.cycles.unlisted_target.Goals as goal

pub loop-at-init : goal.loop-at-init
loop-at-init c =
    let edges = c.args.needs.now.edges.now in
    let is = c.last-at.ensures ∙ ap (λ e. last_edge e edges c.args.task (length edges)) c.requires.ends in
    record {
      chain = start_chain Task edges c.args.task c.last-at.result is;
      behind = start_each Task edges c.args.task c.last-at.result (λ e. is_listed c.args.listed.now (edge_at edges e).target ≡ true) is;
    }

pub edge-target-requires : goal.edge-target-requires
edge-target-requires c = (chain_edge Task c.args.needs.now.edges.now c.args.task c.loop-at.at c.in-Some.edge c.loop-at.invariant.chain c.in-Some.is).0

pub before-at-requires : goal.before-at-requires
before-at-requires c = (chain_edge Task c.args.needs.now.edges.now c.args.task c.loop-at.at c.in-Some.edge c.loop-at.invariant.chain c.in-Some.is).0

pub returns-then-not-listed-target-clause-target : goal.returns-then-not-listed-target-clause-target
returns-then-not-listed-target-clause-target c =
    let found = chain_edge Task c.args.needs.now.edges.now c.args.task c.loop-at.at c.in-Some.edge c.loop-at.invariant.chain c.in-Some.is in
    needs_by c.args.needs.now.edges.now c.in-Some.edge c.args.task c.edge-target.result.target found.0 found.1 (ap (λ (x : Edge). x.target) (sym c.edge-target.ensures.value))

pub loop-at-smaller : goal.loop-at-smaller
loop-at-smaller c =
    let edges = c.args.needs.now.edges.now in
    let found = chain_edge Task edges c.args.task c.loop-at.at c.in-Some.edge c.loop-at.invariant.chain c.in-Some.is in
    let next_is = next_named Task c.args.needs.now.end edges c.args.task c.in-Some.edge c.before-at.result c.requires.ends found.1 c.before-at.ensures in
    next_lower Task edges c.args.task c.loop-at.at c.before-at.result c.in-Some.edge c.in-Some.is next_is

pub loop-at-preserved : goal.loop-at-preserved
loop-at-preserved c =
    let edges = c.args.needs.now.edges.now in
    let found = chain_edge Task edges c.args.task c.loop-at.at c.in-Some.edge c.loop-at.invariant.chain c.in-Some.is in
    let next_is = next_named Task c.args.needs.now.end edges c.args.task c.in-Some.edge c.before-at.result c.requires.ends found.1 c.before-at.ensures in
    let here : is_listed c.args.listed.now c.edge-target.result.target ≡ true = search rules in
    record {
      chain = next_chain Task edges c.args.task c.loop-at.at c.before-at.result c.in-Some.edge c.loop-at.invariant.chain c.in-Some.is next_is;
      behind = next_each Task edges c.args.task c.loop-at.at c.before-at.result c.in-Some.edge (λ e. is_listed c.args.listed.now (edge_at edges e).target ≡ true) c.in-Some.is next_is c.loop-at.invariant.behind
          (subst (λ (x : Edge). is_listed c.args.listed.now x.target ≡ true) c.edge-target.ensures.value here);
    }

pub returns-clause-none : goal.returns-clause-none
returns-clause-none c = each_target c.args.needs.now.edges.now c.args.task c.loop-at.at (λ t. is_listed c.args.listed.now t ≡ true) c.loop-at.invariant.behind c.in_default.is
