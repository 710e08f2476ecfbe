use Rattle.std.proofs.Common.{rules, ◌≡◌, Some}
use Rattle.glk_closure.specs.declared.marks.Marks.{Marks}
use Rattle.glk_closure.specs.Graph.{Graph}
use Rattle.glk_closure.specs.Reach.{Sig, by_sig}
use Rattle.glk_closure.specs.Marks.{Extends, AllBack}
use Rattle.glk_closure.proofs.Growth.{ExtendsIf-then, ExtendsIf-of}
use Rattle.glk_closure.proofs.Rowing.{row_within}
use Rattle.glk_closure.proofs.search.wait_by_type.Goals as goal

pub wait-requires-clause-row : goal.wait-requires-clause-row
wait-requires-clause-row g c =
    let w : Graph = g.P.Program.graph c.args.program.now in
    let m : Marks = c.sig_row.new.self in
    let x : Extends w c.args.marks.now m = c.in_ok-row.ensures.extends w in
    row_within m w.keys c.in_ok-row.row (Sig c.args.name.now c.in-Some.first) (x.covers c.requires.covers) c.in_ok-row.ensures.stands

pub wait-requires-clause-covers : goal.wait-requires-clause-covers
wait-requires-clause-covers g c =
    let w : Graph = g.P.Program.graph c.args.program.now in
    let m : Marks = c.sig_row.new.self in
    let x : Extends w c.args.marks.now m = c.in_ok-row.ensures.extends w in
    x.covers c.requires.covers

pub returns-in_ok-wait-clause-extends : goal.returns-in_ok-wait-clause-extends
returns-in_ok-wait-clause-extends g c =
    let w : Graph = g.P.Program.graph c.args.program.now in
    let m : Marks = c.sig_row.new.self in
    let x : Extends w c.args.marks.now m = c.in_ok-row.ensures.extends w in
    let R = AllBack w c.args.name.now c.args.targets in
    let e : c.args.targets.first ≡ Some c.in-Some.first = search rules in
    ExtendsIf-then R (ExtendsIf-of R x) (c.in_ok-wait.ensures.extends (Sig c.args.name.now c.in-Some.first) c.in_ok-row.ensures.stands) (λ r s. r) (λ r s. r (Sig c.args.name.now c.in-Some.first) (by_sig c.in-Some.first e))
