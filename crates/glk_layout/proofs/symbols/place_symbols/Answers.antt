use Rattle.std.proofs.Common.{◌≡◌, take, sym, ap, ◌∙◌, refl, arith}
use Rattle.std.proofs.lemmas.List.{take_all}
use Rattle.glk_layout.specs.Boxes.{end_after}
use Rattle.glk_layout.specs.Symbols.{boxes_in}
use Rattle.glk_layout.proofs.Boxing.{symbols_none}
use Rattle.glk_layout.proofs.PlacingSteps.{symbols_step}
use Rattle.glk_layout.proofs.symbols.place_symbols.Goals as goal

pub loop-i-init : goal.loop-i-init
loop-i-init c = record {
  ends = sym (symbols_none c.args.number c.args.start c.args.symbols.now);
  small = omega arith;
  placed = λ k lt. absurd (omega (arith, lt));
  rest = λ k high. refl;
}

pub place_symbol-after-requires : goal.place_symbol-after-requires
place_symbol-after-requires c =
    let s = c.loop-i.invariant.small in
    let few = c.requires.few in
    omega arith

pub loop-i-preserved : goal.loop-i-preserved
loop-i-preserved c =
    symbols_step c.args.number c.args.start c.args.symbols.now c.args.places.now c.loop-i.places c.loop-i.i c.loop-i.end
    c.place_symbol-after.result.0 c.place_symbol-after.result.1 c.loop-i-test.true
    (omega (arith, c.loop-i.auto.places, c.requires.same)) c.loop-i.invariant
    c.place_symbol-after.ensures.end c.place_symbol-after.ensures.place c.place_symbol-after.ensures.small

pub returns-clause-end : goal.returns-clause-end
returns-clause-end c =
    let all : take c.loop-i.i c.args.symbols.now ≡ c.args.symbols.now = take_all c.loop-i.i c.args.symbols.now (omega arith) in
    c.loop-i.invariant.ends ∙ ap (λ l. end_after c.args.start (boxes_in c.args.number l)) all

pub returns-clause-small : goal.returns-clause-small
returns-clause-small c =
    let s = c.loop-i.invariant.small in
    let few = c.requires.few in
    let ends = c.loop-i.auto.i-end in
    omega arith

pub returns-clause-places : goal.returns-clause-places
returns-clause-places c = λ i lt. c.loop-i.invariant.placed i (omega arith)
