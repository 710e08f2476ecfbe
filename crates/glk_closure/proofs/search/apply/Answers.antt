use Rattle.std.proofs.Common.{rules, ◌≡◌, ℕ, List, Option, sym, subst, inl, inr}
use Rattle.std.specs.Prelude.{IsTrue}
use Rattle.std.proofs.lemmas.Result.{on_ok_weaker}
use denote.Ref.{Bor}
use Rattle.glk_closure.specs.declared.effect.Effect.{Effect as CodeEffect}
use Rattle.glk_closure.specs.declared.effect.Effect.TheVariants as code
use Rattle.glk_closure.specs.declared.effect.Targets.{Targets}
use Rattle.glk_closure.specs.declared.marks.Marks.{Marks}
use Rattle.glk_closure.specs.Graph.{Graph}
use Rattle.glk_closure.specs.Views.{effect_view, name_view, IsWithin}
use Rattle.glk_closure.specs.Reach.{Has, Kept, Iface, Sig, Named, Reach, K2, K3, I2, I3, S1, G1}
use Rattle.glk_closure.specs.Marks.{Adds, Extends, ExtendsIf, ExtendsBy}
use Rattle.glk_closure.specs.Search.{IsGiven, ExtendsByMethod}
use Rattle.glk_closure.proofs.Derivations.{Reach-step}
use Rattle.glk_closure.proofs.Growth.{Extends-refl, Extends-from, Covers-same}
use Rattle.glk_closure.proofs.Steps.{Extends-rule, Extends-ok}
use Rattle.glk_closure.proofs.search.apply.Goals as goal

pub mark_defined-requires-clause-covers : goal.mark_defined-requires-clause-covers
mark_defined-requires-clause-covers g c =
    let x = c.in_ok-keep_defined-in-Links.ensures in
    Covers-same x.grows x.same c.requires.covers

pub returns-in-Keeps-clause-extends : goal.returns-in-Keeps-clause-extends
returns-in-Keeps-clause-extends g c =
    let w : Graph = g.P.Program.graph c.args.program.now in
    let m : Marks = c.args.marks.now in
    let k = c.args.key in
    let t = c.in-Keeps.target in
    let e : c.args.effect ≡ code.Keeps t = search rules in
    let H : CodeEffect → Type 0 = λ x. Has w k (effect_view x) in
    let at : Has w k (effect_view (code.Keeps t)) = subst H e c.requires.has in
    Extends-ok _ w m m _ (Kept t) _ (Extends-refl w m) (λ d. K2 k t c.requires.kept (inl at) d) c.keep_defined.ensures

pub returns-in-Funcdata-clause-extends : goal.returns-in-Funcdata-clause-extends
returns-in-Funcdata-clause-extends g c =
    let w : Graph = g.P.Program.graph c.args.program.now in
    let m : Marks = c.args.marks.now in
    let k = c.args.key in
    let t = c.in-Funcdata.target in
    let e : c.args.effect ≡ code.Funcdata t = search rules in
    let H : CodeEffect → Type 0 = λ x. Has w k (effect_view x) in
    let at : Has w k (effect_view (code.Funcdata t)) = subst H e c.requires.has in
    Extends-ok _ w m m _ (Kept t) _ (Extends-refl w m) (λ d. K3 k t c.requires.kept at d) c.keep_defined-in-Funcdata.ensures

pub returns-in-Uses-clause-extends : goal.returns-in-Uses-clause-extends
returns-in-Uses-clause-extends g c =
    let w : Graph = g.P.Program.graph c.args.program.now in
    let m : Marks = c.args.marks.now in
    let k = c.args.key in
    let t = c.in-Uses.target in
    let e : c.args.effect ≡ code.Uses t = search rules in
    let H : CodeEffect → Type 0 = λ x. Has w k (effect_view x) in
    let at : Has w k (effect_view (code.Uses t)) = subst H e c.requires.has in
    Extends-ok _ w m m _ (Iface t) _ (Extends-refl w m) (λ d. I3 k t c.requires.kept at d) c.mark_defined-in-Uses.ensures

pub returns-then-iface-clause-extends : goal.returns-then-iface-clause-extends
returns-then-iface-clause-extends g c =
    let w : Graph = g.P.Program.graph c.args.program.now in
    let m : Marks = c.args.marks.now in
    let k = c.args.key in
    let t = c.in-Links.target in
    let e : c.args.effect ≡ code.Links t = search rules in
    let H : CodeEffect → Type 0 = λ x. Has w k (effect_view x) in
    let at : Has w k (effect_view (code.Links t)) = subst H e c.requires.has in
    let n : Marks = c.keep_defined-in-Links.new.marks in
    let x : Extends w m n = Extends-rule w c.in_ok-keep_defined-in-Links.ensures (λ d. K2 k t c.requires.kept (inr at) d) in
    Extends-ok _ w m n _ (Iface t) _ x (λ d. I2 k t (x.grows.keeps (Kept k) c.requires.kept) (x.grows.keeps (Iface k) (c.requires.iface c.if-iface.true)) at d) c.mark_defined.ensures

pub returns-then-iface-clause-given : goal.returns-then-iface-clause-given
returns-then-iface-clause-given g c =
    let w : Graph = g.P.Program.graph c.args.program.now in
    let m : Marks = c.args.marks.now in
    let k = c.args.key in
    let t = c.in-Links.target in
    let e : c.args.effect ≡ code.Links t = search rules in
    let n : Marks = c.keep_defined-in-Links.new.marks in
    let o : Marks = c.mark_defined.new.marks in
    let Q : CodeEffect → Type 0 = λ x. IsGiven w c.args.iface o (effect_view x) in
    on_ok_weaker {P = Adds n o (Iface t) (w.defined t)} {Q = Q c.args.effect} c.mark_defined.result
    (λ x. subst Q (sym e) (λ d. x.grows.keeps (Kept t) (c.in_ok-keep_defined-in-Links.ensures.holds d), λ _ d. x.holds d))
    c.mark_defined.ensures

pub returns-else-iface-clause-extends : goal.returns-else-iface-clause-extends
returns-else-iface-clause-extends g c =
    let w : Graph = g.P.Program.graph c.args.program.now in
    let m : Marks = c.args.marks.now in
    let k = c.args.key in
    let t = c.in-Links.target in
    let e : c.args.effect ≡ code.Links t = search rules in
    let H : CodeEffect → Type 0 = λ x. Has w k (effect_view x) in
    let at : Has w k (effect_view (code.Links t)) = subst H e c.requires.has in
    Extends-rule w c.in_ok-keep_defined-in-Links.ensures (λ d. K2 k t c.requires.kept (inr at) d)

pub returns-in-Calls-clause-extends : goal.returns-in-Calls-clause-extends
returns-in-Calls-clause-extends g c =
    let w : Graph = g.P.Program.graph c.args.program.now in
    let m : Marks = c.args.marks.now in
    let k = c.args.key in
    let t = c.in-Calls.of in
    let n = c.in-Calls.name in
    let e : c.args.effect ≡ code.Calls n t = search rules in
    let H : CodeEffect → Type 0 = λ x. Has w k (effect_view x) in
    let at : Has w k (effect_view (code.Calls n t)) = subst H e c.requires.has in
    let o : Marks = c.call_defined.new.marks in
    on_ok_weaker {P = ExtendsIf w (IsTrue (w.defined t) → Reach w (Sig n.now t)) m o} {Q = Extends w m o} c.call_defined.result
    (λ x. Extends-from x (λ s d. Reach-step (S1 k t n.now (s.facts (Kept k) c.requires.kept) at d))) c.call_defined.ensures.extends

pub returns-in-Names-clause-extends : goal.returns-in-Names-clause-extends
returns-in-Names-clause-extends g c =
    let w : Graph = g.P.Program.graph c.args.program.now in
    let m : Marks = c.args.marks.now in
    let k = c.args.key in
    let n = c.in-Names.name in
    let e : c.args.effect ≡ code.Names n = search rules in
    let H : CodeEffect → Type 0 = λ x. Has w k (effect_view x) in
    let at : Has w k (effect_view (code.Names n)) = subst H e c.requires.has in
    let o : Marks = c.call_name.new.marks in
    on_ok_weaker {P = ExtendsBy w (Named n.now) m o} {Q = Extends w m o} c.call_name.result (λ x. Extends-from x (λ s. Reach-step (G1 k n.now (s.facts (Kept k) c.requires.kept) at))) c.call_name.ensures.extends

pub returns-then-iface-2-clause-extends : goal.returns-then-iface-2-clause-extends
returns-then-iface-2-clause-extends g c =
    let w : Graph = g.P.Program.graph c.args.program.now in
    let m : Marks = c.args.marks.now in
    let k = c.args.key in
    let n : Option (Bor (List ℕ)) = c.in-Method.name in
    let x : Targets = c.in-Method.targets in
    let e : c.args.effect ≡ code.Method n x = search rules in
    let H : CodeEffect → Type 0 = λ x. Has w k (effect_view x) in
    let at : Has w k (effect_view (code.Method n x)) = subst H e c.requires.has in
    let o : Marks = c.take_method.new.marks in
    on_ok_weaker {P = ExtendsByMethod w (name_view n) x m o} {Q = Extends w m o} c.take_method.result (λ y. y k c.requires.kept (c.requires.iface c.if-iface-2.true) at) c.take_method.ensures.extends

pub take_method-requires-clause-below : goal.take_method-requires-clause-below
take_method-requires-clause-below g c =
    let w : Graph = g.P.Program.graph c.args.program.now in
    let n : Option (Bor (List ℕ)) = c.in-Method.name in
    let x : Targets = c.in-Method.targets in
    let e : c.args.effect ≡ code.Method n x = search rules in
    let W : CodeEffect → Type 0 = λ y. IsWithin w.keys (effect_view y) in
    subst W e c.requires.within
