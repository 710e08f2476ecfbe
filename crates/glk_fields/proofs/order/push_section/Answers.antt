use Rattle.std.proofs.Common.{◌≡◌, ◌∙◌, ℕ, Bool, false, true, length, ap, sym, subst, arith}
use Rattle.glk_placing.specs.Members.{is_at}
use Rattle.glk_placing.specs.Programs.{PlacedProgram}
use Rattle.glk_fields.specs.Added.{AddsPlaces}
use Rattle.glk_fields.proofs.PlaceLists.{indices_below, adds_none, adds_here, adds_not}
use Rattle.glk_fields.proofs.order.push_section.Goals as goal

pub loop-i-init : goal.loop-i-init
loop-i-init c = adds_none c.args.values.now c.args.places.now.items

pub loop-i-preserved-then-not-holds : goal.loop-i-preserved-then-not-holds
loop-i-preserved-then-not-holds c =
    let is : is_at c.args.values.now c.args.number c.loop-i.i ≡ false =
    ap (λ (q : PlacedProgram). is_at q c.args.number c.loop-i.i) (sym c.placement-in-loop-i.ensures) ∙ (sym c.holds.ensures ∙ c.if-not-holds.true) in
    adds_not c.args.values.now c.args.number c.loop-i.i c.args.places.now.items c.loop-i.places.items is c.loop-i.invariant

pub loop-i-preserved : goal.loop-i-preserved
loop-i-preserved c =
    let is : is_at c.args.values.now c.args.number c.loop-i.i ≡ true =
    ap (λ (q : PlacedProgram). is_at q c.args.number c.loop-i.i) (sym c.placement-in-loop-i.ensures) ∙ (sym c.holds.ensures ∙ c.if-not-holds.false) in
    adds_here c.args.values.now c.args.number c.loop-i.i c.args.places.now.items c.loop-i.places.items c.push_symbol.new.places.items is c.loop-i.invariant c.in_ok-push_symbol.ensures

pub returns : goal.returns
returns c =
    let long : length c.kept-count.result.now ≡ length c.args.values.now.kept =
    ap length c.kept-count.ensures.value ∙ ap (λ (q : PlacedProgram). length q.kept) c.placement.ensures in
    let e : c.loop-i.i ≡ length c.args.values.now.kept = omega (arith, long, c.loop-i-test.false, c.loop-i.auto.i-end) in
    subst (λ (n : ℕ). AddsPlaces c.args.values.now (indices_below c.args.values.now c.args.number n) c.args.places.now.items c.loop-i.places.items) e c.loop-i.invariant
