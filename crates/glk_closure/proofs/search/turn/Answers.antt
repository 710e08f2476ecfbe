use Rattle.std.proofs.Common.{◌≡◌, refl, arith}
use Rattle.glk_closure.specs.declared.marks.Marks.{Marks}
use Rattle.glk_closure.specs.Graph.{Graph}
use Rattle.std.proofs.Common.{[]}
use Rattle.std.proofs.lemmas.List.{nil_from_length}
use Rattle.std.proofs.lemmas.List.Elements.{Contains-push}
use Rattle.glk_closure.proofs.Derivations.{Contains-nil}
use Rattle.glk_closure.proofs.Growth.{Extends-refl}
use Rattle.glk_closure.proofs.Turns.{Searching-turn, SameMarks, taken_last, still_waits, finished}
use Rattle.glk_closure.proofs.search.turn.Goals as goal

pub visit-requires-clause-key : goal.visit-requires-clause-key
visit-requires-clause-key g c =
    let l = c.requires.in_range c.in-Some.key (rw c.in-Some.ensures.items (Contains-push _ c.in-Some.key)) in
    omega (arith, l, c.requires.covers.kept)

pub returns-in-Some-clause-searching : goal.returns-in-Some-clause-searching
returns-in-Some-clause-searching g c =
    let w : Graph = g.P.Program.graph c.args.program.now in
    let a : Marks = c.args.marks.now in
    let b : Marks = record a { work = c.pop.new.self } in
    let same : SameMarks a b = record { kept = refl; iface = refl; rows = record { calls = refl; rows = refl } } in
    Searching-turn w a b c.visit.new.marks c.requires same c.in_ok-visit.ensures.extends (still_waits a b c.in-Some.key c.in-Some.ensures.items) (taken_last w a b c.visit.new.marks c.in-Some.key c.in-Some.ensures.items c.in_ok-visit.ensures.visited)

pub returns-clause-searching : goal.returns-clause-searching
returns-clause-searching g c =
    let w : Graph = g.P.Program.graph c.args.program.now in
    let a : Marks = c.args.marks.now in
    let b : Marks = record a { work = c.pop.new.self } in
    let same : SameMarks a b = record { kept = refl; iface = refl; rows = record { calls = refl; rows = refl } } in
    let h = a.work.ok in
    let z = c.in_default.ensures.cases in
    let none : a.work.items ≡ [] = nil_from_length a.work.items (omega (arith, h, z)) in
    let h' = b.work.ok in
    let none' : b.work.items ≡ [] = nil_from_length b.work.items (omega (arith, h', z)) in
    Searching-turn w a b b c.requires same (Extends-refl w b) (λ k p. absurd (Contains-nil k (rw none' at p))) (λ k p. absurd (Contains-nil k (rw none at p)))

pub returns-clause-finished : goal.returns-clause-finished
returns-clause-finished g c = λ more.
    let w : Graph = g.P.Program.graph c.args.program.now in
    let b : Marks = record c.args.marks.now { work = c.pop.new.self } in
    let h = b.work.ok in
    let z = c.in_default.ensures.cases in
    let none : b.work.items ≡ [] = nil_from_length b.work.items (omega (arith, h, z)) in
    finished w b (returns-clause-searching g c) none
