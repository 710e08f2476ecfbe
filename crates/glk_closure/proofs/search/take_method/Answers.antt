use Rattle.std.proofs.Common.{rules, ◌≡◌, ℕ, List, Some, None, Option, inl, sym, subst}
use Rattle.std.proofs.lemmas.Result.{on_ok_weaker}
use denote.Ref.{Bor}
use Rattle.glk_closure.specs.declared.effect.Targets.{Targets}
use Rattle.glk_closure.specs.declared.marks.Marks.{Marks}
use Rattle.glk_closure.specs.Graph.{Graph}
use Rattle.glk_closure.specs.Views.{name_view}
use Rattle.glk_closure.specs.Marks.{ExtendsIf, AllBack}
use Rattle.glk_closure.specs.Search.{IsWaiting, ExtendsByMethod, WaitsForCalls}
use Rattle.glk_closure.proofs.Methods.{method_named, method_unnamed, waiting_named, waiting_unnamed, both_ok}
use Rattle.glk_closure.proofs.search.take_method.Goals as goal

pub pass_iface-requires-clause-below : goal.pass_iface-requires-clause-below
pass_iface-requires-clause-below g c = λ t e. c.requires.below t (inl e)

pub returns-in-Some-clause-extends : goal.returns-in-Some-clause-extends
returns-in-Some-clause-extends g c =
    let w : Graph = g.P.Program.graph c.args.program.now in
    let a : Marks = c.args.marks.now in
    let b : Marks = c.pass_iface.new.marks in
    let d : Marks = c.wait_for_calls.new.marks in
    let x : Targets = c.args.targets in
    let n : List ℕ = c.in-Some.name.now in
    let e : c.args.name ≡ Some c.in-Some.name = search rules in
    let Q : Option (Bor (List ℕ)) → Type 0 = λ o. ExtendsByMethod w (name_view o) x a d in
    on_ok_weaker {P = ExtendsIf w (AllBack w n x) b d} {Q = Q c.args.name} c.wait_for_calls.result (λ y. subst Q (sym e) (method_named w a b x c.in_ok-pass_iface.ensures.extends d n y)) c.wait_for_calls.ensures.extends

pub returns-in-Some-clause-waiting : goal.returns-in-Some-clause-waiting
returns-in-Some-clause-waiting g c =
    let w : Graph = g.P.Program.graph c.args.program.now in
    let b : Marks = c.pass_iface.new.marks in
    let d : Marks = c.wait_for_calls.new.marks in
    let x : Targets = c.args.targets in
    let n : List ℕ = c.in-Some.name.now in
    let e : c.args.name ≡ Some c.in-Some.name = search rules in
    let Q : Option (Bor (List ℕ)) → Type 0 = λ o. IsWaiting w d (name_view o) x in
    on_ok_weaker {P = ExtendsIf w (AllBack w n x) b d × WaitsForCalls d n x} {Q = Q c.args.name} c.wait_for_calls.result
    (λ y. subst Q (sym e) (waiting_named w b d n x y.0.grows c.in_ok-pass_iface.ensures.given y.1))
    (both_ok _ _ c.wait_for_calls.result c.wait_for_calls.ensures.extends c.wait_for_calls.ensures.waits)

pub returns-in-None-clause-extends : goal.returns-in-None-clause-extends
returns-in-None-clause-extends g c =
    let w : Graph = g.P.Program.graph c.args.program.now in
    let e : c.args.name ≡ None = search rules in
    let Q : Option (Bor (List ℕ)) → Type 0 = λ o. ExtendsByMethod w (name_view o) c.args.targets c.args.marks.now c.pass_iface.new.marks in
    subst Q (sym e) (method_unnamed w c.args.marks.now c.pass_iface.new.marks c.args.targets c.in_ok-pass_iface.ensures.extends)

pub returns-in-None-clause-waiting : goal.returns-in-None-clause-waiting
returns-in-None-clause-waiting g c =
    let w : Graph = g.P.Program.graph c.args.program.now in
    let e : c.args.name ≡ None = search rules in
    let Q : Option (Bor (List ℕ)) → Type 0 = λ o. IsWaiting w c.pass_iface.new.marks (name_view o) c.args.targets in
    subst Q (sym e) (waiting_unnamed w c.pass_iface.new.marks c.args.targets c.in_ok-pass_iface.ensures.given)
