use Rattle.std.proofs.Common.{◌<◌, ℕ, List, get_or, refl, subst, arith}
use Rattle.std.specs.Prelude.{IsTrue}
use Rattle.std.specs.List.{Contains}
use Rattle.glk_closure.specs.declared.marks.Marks.{Marks}
use Rattle.glk_closure.specs.Graph.{Graph}
use Rattle.glk_closure.specs.Reach.{Kept, K1}
use Rattle.glk_closure.specs.Marks.{Holds, Extends}
use Rattle.glk_closure.proofs.Each.{each_more, each_all, read_contains}
use Rattle.glk_closure.proofs.Growth.{Extends-trans}
use Rattle.glk_closure.proofs.Parts.{all_contains}
use Rattle.glk_closure.proofs.Steps.{Extends-rule}
use Rattle.glk_closure.proofs.search.mark_roots.Goals as goal

pub keep_defined-requires-clause-key : goal.keep_defined-requires-clause-key
keep_defined-requires-clause-key g c =
    let w : Graph = g.P.Program.graph c.args.program.now in
    let list : List ℕ = c.roots-roots.result.now in
    let r = get_or list c.loop-i.i 0 in
    let in_list : Contains list r = read_contains list c.loop-i.i r (omega arith) refl in
    let P : List ℕ → Type 0 = λ l. Contains l r in
    all_contains (λ x. x < w.keys) w.roots r c.roots-roots.ensures.within (subst P c.roots-roots.ensures.value in_list)

pub keep_defined-requires-clause-covers : goal.keep_defined-requires-clause-covers
keep_defined-requires-clause-covers g c = c.loop-i.invariant.extends.covers c.requires.covers

pub loop-i-preserved : goal.loop-i-preserved
loop-i-preserved g c =
    let w : Graph = g.P.Program.graph c.args.program.now in
    let inv = c.loop-i.invariant in
    let list : List ℕ = c.roots-roots.result.now in
    let r = get_or list c.loop-i.i 0 in
    let in_list : Contains list r = read_contains list c.loop-i.i r (omega arith) refl in
    let P : List ℕ → Type 0 = λ l. Contains l r in
    let in_roots : Contains w.roots r = subst P c.roots-roots.ensures.value in_list in
    let e = c.in_ok-keep_defined.ensures in
    let new : Marks = c.keep_defined.new.marks in
    let x : Extends w c.loop-i.marks new = Extends-rule w e (λ d. K1 r in_roots d) in
    record {
      extends = Extends-trans inv.extends x;
      roots = each_more (λ y. IsTrue (w.defined y) → Holds c.loop-i.marks (Kept y)) (λ y. IsTrue (w.defined y) → Holds new (Kept y)) list c.loop-i.i r (λ y h d. x.grows.keeps (Kept y) (h d)) inv.roots refl (λ d. e.holds d);
    }

pub returns-clause-roots : goal.returns-clause-roots
returns-clause-roots g c = λ r in_roots.
    let w : Graph = g.P.Program.graph c.args.program.now in
    let list : List ℕ = c.roots-roots.result.now in
    let in_list : Contains list r = rw c.roots-roots.ensures.value in_roots in
    each_all (λ y. IsTrue (w.defined y) → Holds c.loop-i.marks (Kept y)) list c.loop-i.i (omega arith) c.loop-i.invariant.roots r in_list
