use Rattle.std.specs.Prelude.{IsTrue}
use Rattle.glk_closure.specs.declared.marks.Marks.{Marks}
use Rattle.glk_closure.specs.Graph.{Graph}
use Rattle.glk_closure.specs.Reach.{Reflect, Reach}
use Rattle.glk_closure.specs.Marks.{Extends}
use Rattle.glk_closure.proofs.Growth.{ExtendsIf-then, ExtendsIf-of}
use Rattle.glk_closure.proofs.Rowing.{row_within}
use Rattle.glk_closure.proofs.search.call_by_reflection.Goals as goal

pub call-requires-clause-row : goal.call-requires-clause-row
call-requires-clause-row g c =
    let w : Graph = g.P.Program.graph c.args.program.now in
    let m : Marks = c.reflection_row.new.self in
    let x : Extends w c.args.marks.now m = c.in_ok-row.ensures.extends w in
    row_within m w.keys c.in_ok-row.row Reflect (x.covers c.requires.covers) c.in_ok-row.ensures.stands

pub call-requires-clause-covers : goal.call-requires-clause-covers
call-requires-clause-covers g c =
    let w : Graph = g.P.Program.graph c.args.program.now in
    let m : Marks = c.reflection_row.new.self in
    let x : Extends w c.args.marks.now m = c.in_ok-row.ensures.extends w in
    x.covers c.requires.covers

pub returns-in_ok-call-clause-extends : goal.returns-in_ok-call-clause-extends
returns-in_ok-call-clause-extends g c =
    let w : Graph = g.P.Program.graph c.args.program.now in
    let m : Marks = c.reflection_row.new.self in
    let x : Extends w c.args.marks.now m = c.in_ok-row.ensures.extends w in
    let R = IsTrue c.args.reflects → Reach w Reflect in
    ExtendsIf-then R (ExtendsIf-of R x) (c.in_ok-call.ensures.extends Reflect c.in_ok-row.ensures.stands) (λ r s. r) (λ r s. r c.if-reflects.true)
