use Rattle.std.proofs.Common.{ℕ, List}
use Rattle.std.specs.Prelude.{IsTrue}
use Rattle.std.proofs.lemmas.Result.{on_ok_weaker}
use Rattle.glk_closure.proofs.Methods.{both_ok}
use Rattle.glk_closure.specs.declared.effect.Targets.{Targets}
use Rattle.glk_closure.specs.declared.marks.Marks.{Marks}
use Rattle.glk_closure.specs.Graph.{Graph}
use Rattle.glk_closure.specs.Reach.{Sig, Named, Reflect, by_sig, by_name, by_reflection, is_exported}
use Rattle.glk_closure.specs.Marks.{Waits, Extends, ExtendsIf, AllBack}
use Rattle.glk_closure.specs.Search.{WaitsForCalls, WaitsByType}
use Rattle.glk_closure.proofs.Growth.{ExtendsIf-then, ExtendsIf-of}
use Rattle.glk_closure.proofs.Rowing.{row_within}
use Rattle.glk_closure.proofs.search.wait_for_calls.Goals as goal

pub wait-requires-clause-row : goal.wait-requires-clause-row
wait-requires-clause-row g c =
    let w : Graph = g.P.Program.graph c.args.program.now in
    let l1 : Marks = c.named_row.new.self in
    let e1 : Extends w c.args.marks.now l1 = c.in_ok-named.ensures.extends w in
    row_within l1 w.keys c.in_ok-named.named (Named c.args.name.now) (e1.covers c.requires.covers) c.in_ok-named.ensures.stands

pub wait-requires-clause-covers : goal.wait-requires-clause-covers
wait-requires-clause-covers g c =
    let w : Graph = g.P.Program.graph c.args.program.now in
    let e1 : Extends w c.args.marks.now c.named_row.new.self = c.in_ok-named.ensures.extends w in
    e1.covers c.requires.covers

pub returns-clause-extends : goal.returns-clause-extends
returns-clause-extends g c =
    let w : Graph = g.P.Program.graph c.args.program.now in
    let a : Marks = c.args.marks.now in
    let x : Targets = c.args.targets in
    let n : List ℕ = c.args.name.now in
    let l3 : Marks = c.wait_by_type.new.marks in
    let l4 : Marks = c.wait_by_reflection.new.marks in
    let R = AllBack w n x in
    let y2 = ExtendsIf-then R (ExtendsIf-of R (c.in_ok-named.ensures.extends w)) (c.in_ok-wait.ensures.extends (Named n) c.in_ok-named.ensures.stands) (λ r s. r) (λ r s. r (Named n) by_name) in
    let y3 = ExtendsIf-then R y2 c.in_ok-wait_by_type.ensures.extends (λ r s. r) (λ r s. r) in
    on_ok_weaker {P = ExtendsIf w R l3 l4} {Q = ExtendsIf w R a l4} c.wait_by_reflection.result (λ y. ExtendsIf-then R y3 y (λ r s. r) (λ r s. r)) c.wait_by_reflection.ensures.extends

-- a method that waits in each of its rows waits for each fact that calls its name
waiting_for : (m : Marks) (n : List ℕ) (x : Targets) → Waits m (Named n) x → WaitsByType m n x → (IsTrue (is_exported n) → Waits m Reflect x) → WaitsForCalls m n x
waiting_for m n x named sig reflect _ (by_sig a e) = sig a e
waiting_for m n x named sig reflect _ by_name = named
waiting_for m n x named sig reflect _ (by_reflection e) = reflect e

pub returns-clause-waits : goal.returns-clause-waits
returns-clause-waits g c =
    let w : Graph = g.P.Program.graph c.args.program.now in
    let x : Targets = c.args.targets in
    let n : List ℕ = c.args.name.now in
    let l3 : Marks = c.wait_by_type.new.marks in
    let l4 : Marks = c.wait_by_reflection.new.marks in
    let named : Waits l3 (Named n) x = c.in_ok-wait_by_type.ensures.extends.grows.still (Named n) x (c.in_ok-wait.ensures.waits (Named n) c.in_ok-named.ensures.stands) in
    on_ok_weaker {P = ExtendsIf w (AllBack w n x) l3 l4 × (IsTrue (is_exported n) → Waits l4 Reflect x)} {Q = WaitsForCalls l4 n x} c.wait_by_reflection.result
    (λ y. waiting_for l4 n x (y.0.grows.still (Named n) x named) (λ a e. y.0.grows.still (Sig n a) x (c.in_ok-wait_by_type.ensures.waits a e)) y.1)
    (both_ok _ _ c.wait_by_reflection.result c.wait_by_reflection.ensures.extends c.wait_by_reflection.ensures.waits)
