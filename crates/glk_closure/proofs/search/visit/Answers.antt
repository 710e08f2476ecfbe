use Rattle.std.proofs.Common.{rules, ℕ, ◌≡◌, ◌<◌, length, sym, ap, ◌∙◌, arith, below_more, subst, get_or, refl, Some, List, map}
use Rattle.std.specs.Prelude.{slice_get}
use Rattle.std.proofs.lemmas.List.{length-map}
use Rattle.std.proofs.lemmas.Option.{slice_get_read, same_Some}
use Rattle.glk_closure.specs.declared.effect.Effect.{Effect as CodeEffect}
use Rattle.glk_closure.specs.declared.marks.Marks.{Marks}
use Rattle.glk_closure.specs.Graph.{Graph, Effect}
use Rattle.glk_closure.specs.Views.{effect_view, IsWithin}
use Rattle.glk_closure.specs.Reach.{Kept, Iface, Reflect, F1}
use Rattle.glk_closure.specs.Marks.{Holds}
use Rattle.glk_closure.specs.Search.{IsGiven}
use Rattle.glk_closure.proofs.Derivations.{Reach-step}
use Rattle.glk_closure.proofs.Growth.{Extends-trans, Extends-from}
use Rattle.glk_closure.proofs.Steps.{IsGiven-keeps, Up-grows}
use Rattle.glk_closure.proofs.Parts.{get_map, contains_at, place_of, all_contains}
use Rattle.glk_closure.proofs.search.visit.Goals as goal

pub loop-i-init : goal.loop-i-init
loop-i-init g c =
    let w : Graph = g.P.Program.graph c.args.program.now in
    let k = c.args.key in
    let m : Marks = c.args.marks.now in
    let kept : Holds m (Kept k) = search rules in
    record {
      extends = Extends-from c.in_ok-call_by_reflection.ensures.extends (λ s t. Reach-step (F1 k (s.facts (Kept k) kept) (sym c.reflects.ensures ∙ t)));
      kept = kept;
      iface = c.has-iface.ensures;
      given = λ j l. absurd (omega (arith, l));
      reflects = λ t. c.in_ok-call_by_reflection.ensures.called (c.reflects.ensures ∙ t);
    }

-- the effect that was read is one of the key's
at_key : (w : Graph) (k i : ℕ) (list : List CodeEffect) (x : CodeEffect) → map effect_view list ≡ w.effects k → i < length list → x ≡ get_or list i x → slice_get (w.effects k) i ≡ Some (effect_view x)
at_key w k i list x value within is = rw (← value) (get_map effect_view list i x (slice_get_read list (length list) i x refl within is))

pub apply-requires-clause-has : goal.apply-requires-clause-has
apply-requires-clause-has g c =
    let w : Graph = g.P.Program.graph c.args.program.now in
    let list : List CodeEffect = c.effects.new.out.items in
    let x : CodeEffect = c.index-effect.result.now in
    contains_at (w.effects c.args.key) c.loop-i.i (effect_view x) (at_key w c.args.key c.loop-i.i list x c.in_ok-effects.ensures.value (omega arith) c.index-effect.ensures)

pub apply-requires-clause-within : goal.apply-requires-clause-within
apply-requires-clause-within g c =
    let w : Graph = g.P.Program.graph c.args.program.now in
    let x : CodeEffect = c.index-effect.result.now in
    all_contains (IsWithin w.keys) (w.effects c.args.key) (effect_view x) c.in_ok-effects.ensures.within (apply-requires-clause-has g c)

pub apply-requires-clause-kept : goal.apply-requires-clause-kept
apply-requires-clause-kept g c = c.loop-i.invariant.extends.grows.keeps (Kept c.args.key) c.loop-i.invariant.kept

pub apply-requires-clause-iface : goal.apply-requires-clause-iface
apply-requires-clause-iface g c = λ t. c.loop-i.invariant.extends.grows.keeps (Iface c.args.key) (sym c.loop-i.invariant.iface ∙ t)

pub loop-i-preserved : goal.loop-i-preserved
loop-i-preserved g c =
    let w : Graph = g.P.Program.graph c.args.program.now in
    let k = c.args.key in
    let i = c.loop-i.i in
    let inv = c.loop-i.invariant in
    let e = c.in_ok-apply.ensures in
    let new : Marks = c.apply.new.marks in
    let b = c.has-iface.result in
    let list : List CodeEffect = c.effects.new.out.items in
    let x : CodeEffect = c.index-effect.result.now in
    let at = at_key w k i list x c.in_ok-effects.ensures.value (omega arith) c.index-effect.ensures in
    record {
      extends = Extends-trans inv.extends e.extends;
      kept = inv.kept;
      iface = inv.iface;
      given = below_more (λ j. (f : Effect) → slice_get (w.effects k) j ≡ Some f → IsGiven w b new f) i
          (λ j l f h. IsGiven-keeps w b c.loop-i.marks new (Up-grows e.extends.grows) f (inv.given j l f h))
          (λ f h. let P : Effect → Type 0 = λ y. IsGiven w b new y in subst P (same_Some (effect_view x) f (sym at ∙ h)) e.given);
      reflects = λ t. e.extends.grows.keeps Reflect (inv.reflects t);
    }

pub returns-clause-visited : goal.returns-clause-visited
returns-clause-visited g c = λ kept.
    let w : Graph = g.P.Program.graph c.args.program.now in
    let k = c.args.key in
    let inv = c.loop-i.invariant in
    let list : List CodeEffect = c.effects.new.out.items in
    let size : length (w.effects k) ≡ length list = sym (ap length c.in_ok-effects.ensures.value) ∙ length-map list effect_view in
    rw (← inv.iface) (record {
      each = λ e has.
          let below : has.0 < c.loop-i.i = omega (arith, size, has.1) in
          inv.given has.0 below e (place_of (w.effects k) e has);
      reflects = inv.reflects;
    })
