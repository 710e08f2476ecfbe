use Rattle.std.proofs.Common.{◌≡◌, ◌<◌, List, length, get_or, refl, sym, ap, ◌∙◌, subst, arith, below_more}
use Rattle.std.specs.List.{Contains}
use Rattle.std.proofs.lemmas.List.{get_or_default}
use Rattle.glk_closure.specs.declared.effect.Targets.{Targets}
use Rattle.glk_closure.specs.declared.marks.Marks.{Marks}
use Rattle.glk_closure.specs.Graph.{Graph}
use Rattle.glk_closure.specs.Reach.{Kept, Reach}
use Rattle.glk_closure.specs.Marks.{methods_at, AllKept}
use Rattle.glk_closure.proofs.Growth.{ExtendsIf-refl, ExtendsIf-then, SameRows-refl, SameRows-trans}
use Rattle.glk_closure.proofs.Rowing.{row_read_methods}
use Rattle.glk_closure.proofs.search.wake.Goals as goal

pub loop-j-init : goal.loop-j-init
loop-j-init g c =
    let w : Graph = g.P.Program.graph c.args.program.now in
    let a : Marks = c.args.marks.now in
    record { extends = λ f at. ExtendsIf-refl w (Reach w f) a; covers = c.requires.covers; same = SameRows-refl a; kept = λ j d l. absurd (omega (arith, l)) }

pub keep_targets-requires-clause-below : goal.keep_targets-requires-clause-below
keep_targets-requires-clause-below g c =
    let a : Marks = c.args.marks.now in
    let m : Marks = c.loop-j.marks in
    let x : Targets = c.index-targets.result.now in
    let l : c.args.row < length a.rows.items = c.requires.row in
    let within : c.args.row < length m.rows.items = omega (arith, l, ap length c.loop-j.invariant.same.rows) in
    let here : c.index-in-loop-j.result.now.methods.items ≡ methods_at m.rows.items c.args.row = row_read_methods m.rows.items c.args.row c.index-in-loop-j.result.now within c.index-in-loop-j.ensures in
    let first : c.index.result.now.methods.items ≡ methods_at a.rows.items c.args.row = row_read_methods a.rows.items c.args.row c.index.result.now l c.index.ensures in
    let there : methods_at m.rows.items c.args.row ≡ methods_at a.rows.items c.args.row = rw c.loop-j.invariant.same.rows refl in
    let j_in : c.loop-j.j < length (methods_at m.rows.items c.args.row) = omega (arith, c.loop-j-test.true, ap length first, ap length there) in
    let contains : Contains (methods_at m.rows.items c.args.row) x = (c.loop-j.j, j_in, sym (c.index-targets.ensures ∙ ap (λ (xs : List Targets). get_or xs c.loop-j.j x) here)) in
    c.loop-j.invariant.covers.below c.args.row x contains

pub loop-j-preserved : goal.loop-j-preserved
loop-j-preserved g c =
    let w : Graph = g.P.Program.graph c.args.program.now in
    let a : Marks = c.args.marks.now in
    let m : Marks = c.loop-j.marks in
    let n : Marks = c.keep_targets.new.marks in
    let x : Targets = c.index-targets.result.now in
    let inv = c.loop-j.invariant in
    let e = c.in_ok-keep_targets.ensures in
    let l : c.args.row < length a.rows.items = c.requires.row in
    let within : c.args.row < length m.rows.items = omega (arith, l, ap length inv.same.rows) in
    let here : c.index-in-loop-j.result.now.methods.items ≡ methods_at m.rows.items c.args.row = row_read_methods m.rows.items c.args.row c.index-in-loop-j.result.now within c.index-in-loop-j.ensures in
    let first : c.index.result.now.methods.items ≡ methods_at a.rows.items c.args.row = row_read_methods a.rows.items c.args.row c.index.result.now l c.index.ensures in
    let there : methods_at m.rows.items c.args.row ≡ methods_at a.rows.items c.args.row = rw inv.same.rows refl in
    let j_in : c.loop-j.j < length (methods_at a.rows.items c.args.row) = omega (arith, c.loop-j-test.true, ap length first) in
    let is : x ≡ get_or (methods_at a.rows.items c.args.row) c.loop-j.j x = c.index-targets.ensures ∙ ap (λ (xs : List Targets). get_or xs c.loop-j.j x) (here ∙ there) in
    let contains : Contains (methods_at a.rows.items c.args.row) x = (c.loop-j.j, j_in, sym is) in
    record {
      extends = λ f at. ExtendsIf-then (Reach w f) (inv.extends f at) e.extends (λ r s. r) (λ r s. s.waiting f x (c.args.row, at, contains) r);
      covers = e.extends.covers inv.covers;
      same = SameRows-trans inv.same e.same;
      kept = λ j d. below_more (λ i. AllKept w n (get_or (methods_at a.rows.items c.args.row) i d)) c.loop-j.j
          (λ i k t o p. e.extends.grows.keeps (Kept t) (inv.kept i d k t o p))
          (let P : Targets → Type 0 = λ y. AllKept w n y in subst P (is ∙ get_or_default (methods_at a.rows.items c.args.row) c.loop-j.j x d j_in) e.kept) j;
    }

pub returns-clause-extends : goal.returns-clause-extends
returns-clause-extends g c = c.loop-j.invariant.extends

pub returns-clause-kept : goal.returns-clause-kept
returns-clause-kept g c = λ y h.
    let w : Graph = g.P.Program.graph c.args.program.now in
    let a : Marks = c.args.marks.now in
    let l : c.args.row < length a.rows.items = c.requires.row in
    let first : c.index.result.now.methods.items ≡ methods_at a.rows.items c.args.row = row_read_methods a.rows.items c.args.row c.index.result.now l c.index.ensures in
    let below : h.0 < c.loop-j.j = omega (arith, h.1, ap length first) in
    let P : Targets → Type 0 = λ z. AllKept w c.loop-j.marks z in
    subst P h.2 (c.loop-j.invariant.kept h.0 y below)
