use Rattle.std.proofs.Common.{◌≡◌, ◌≤◌, ◌+◌, take, sym, ap, ◌∙◌, arith}
use Rattle.std.specs.Prelude.{map}
use Rattle.std.specs.List.{sum_by}
use Rattle.std.proofs.lemmas.List.{take_all, length-map}
use Rattle.std.proofs.lemmas.List.Sums.{sum_by-take-le, sum_by_more_le}
use Rattle.glk_layout.specs.Boxes.{end_after}
use Rattle.glk_layout.specs.Layout.{made_box}
use Rattle.glk_layout.proofs.Boxing.{end_none}
use Rattle.glk_layout.proofs.PlacingSteps.{made_step, no_made}
use Rattle.glk_layout.proofs.made.place_made.Goals as goal

pub loop-i-init : goal.loop-i-init
loop-i-init c = record {
  ends = sym (end_none c.args.start);
  small = omega arith;
  placed = λ k lt. absurd (omega (arith, lt));
}

pub least_multiple-address-requires-clause-fits : goal.least_multiple-address-requires-clause-fits
least_multiple-address-requires-clause-fits c =
    let s = c.loop-i.invariant.small in
    let part : sum_by (λ m. m.align + m.size) (take c.loop-i.i c.args.made.now) ≤ sum_by (λ m. m.align + m.size) c.args.made.now =
    sum_by-take-le (λ m. m.align + m.size) c.args.made.now c.loop-i.i in
    let whole = c.requires.small in
    let low = c.requires.low in
    omega arith

pub overflow_add-end : goal.overflow_add-end
overflow_add-end c =
    let s = c.loop-i.invariant.small in
    let part = sum_by_more_le (λ m. m.align + m.size) c.args.made.now c.loop-i.i no_made c.loop-i-test.true in
    let whole = c.requires.small in
    let low = c.requires.low in
    let least = c.least_multiple-address.ensures.least in
    omega arith

pub loop-i-preserved : goal.loop-i-preserved
loop-i-preserved c =
    made_step c.args.start c.args.made.now c.loop-i.places c.loop-i.i c.loop-i.end c.least_multiple-address.result c.loop-i-test.true
    (omega (arith, c.loop-i.auto.places, c.requires.same)) c.loop-i.invariant
    (c.requires.aligned c.loop-i.i no_made c.loop-i-test.true) c.least_multiple-address.ensures

pub returns-clause-end : goal.returns-clause-end
returns-clause-end c =
    let all : take c.loop-i.i (map made_box c.args.made.now) ≡ map made_box c.args.made.now =
    take_all c.loop-i.i (map made_box c.args.made.now) (omega (arith, length-map c.args.made.now made_box)) in
    c.loop-i.invariant.ends ∙ ap (end_after c.args.start) all

pub returns-clause-small : goal.returns-clause-small
returns-clause-small c =
    let s = c.loop-i.invariant.small in
    let part : sum_by (λ m. m.align + m.size) (take c.loop-i.i c.args.made.now) ≤ sum_by (λ m. m.align + m.size) c.args.made.now =
    sum_by-take-le (λ m. m.align + m.size) c.args.made.now c.loop-i.i in
    let whole = c.requires.small in
    omega arith

pub returns-clause-places : goal.returns-clause-places
returns-clause-places c = λ i lt. c.loop-i.invariant.placed i (omega arith)
