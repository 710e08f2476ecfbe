use Rattle.std.proofs.Common.{◌<◌, inl, inr, arith, below_more}
use Rattle.std.proofs.lemmas.Bool.{cases_lt, both_ways}
use Rattle.glk_order.specs.Order.{IsOnCycle}
use Rattle.glk_order.proofs.cycles.least_by_searches.Goals as goal

pub returns-then-branch : goal.returns-then-branch
returns-then-branch c = record {
  on_cycle = c.in_ok-reaches_itself.ensures.0 c.if-branch.true;
  least = λ u y. elim (cases_lt u c.loop-task.task) [ inl l ↦ absurd (c.loop-task.invariant u l y) | inr g ↦ g ];
}

pub loop-task-preserved : goal.loop-task-preserved
loop-task-preserved c =
    below_more (λ u. IsOnCycle c.args.needs.now.edges.now u → ⊥) c.loop-task.task c.loop-task.invariant
    (λ y. both_ways c.in_ok-reaches_itself.field-0 c.if-branch.false (c.in_ok-reaches_itself.ensures.1 y))

pub returns : goal.returns
returns c = record {
  on_cycle = c.requires.cycle;
  least = λ u y. elim (cases_lt u c.args.known) [
    | inl l ↦ (let low : u < c.loop-task.task = omega (arith, l) in absurd (c.loop-task.invariant u low y))
    | inr g ↦ g
  ];
}
