use Rattle.std.proofs.lemmas.Result.{on_ok_weaker}
use Rattle.glk_closure.specs.declared.marks.Marks.{Marks}
use Rattle.glk_closure.specs.Graph.{Graph}
use Rattle.glk_closure.specs.Reach.{Fact, Named, Reach}
use Rattle.glk_closure.specs.Rows.{Stands}
use Rattle.glk_closure.specs.Marks.{Extends, ExtendsIf}
use Rattle.glk_closure.proofs.Growth.{ExtendsIf-then, ExtendsIf-of}
use Rattle.glk_closure.proofs.Rowing.{row_within}
use Rattle.glk_closure.proofs.search.call_name.Goals as goal

pub call-requires-clause-row : goal.call-requires-clause-row
call-requires-clause-row g c =
    let w : Graph = g.P.Program.graph c.args.program.now in
    let m : Marks = c.named_row.new.self in
    let x : Extends w c.args.marks.now m = c.in_ok-row.ensures.extends w in
    row_within m w.keys c.in_ok-row.row (Named c.args.name.now) (x.covers c.requires.covers) c.in_ok-row.ensures.stands

pub call-requires-clause-covers : goal.call-requires-clause-covers
call-requires-clause-covers g c =
    let w : Graph = g.P.Program.graph c.args.program.now in
    let m : Marks = c.named_row.new.self in
    let x : Extends w c.args.marks.now m = c.in_ok-row.ensures.extends w in
    x.covers c.requires.covers

pub returns-clause-extends : goal.returns-clause-extends
returns-clause-extends g c =
    let w : Graph = g.P.Program.graph c.args.program.now in
    let m : Marks = c.named_row.new.self in
    let x : Extends w c.args.marks.now m = c.in_ok-row.ensures.extends w in
    let n : Marks = c.call.new.marks in
    on_ok_weaker {P = (f : Fact) → Stands m.calls c.in_ok-row.row f → ExtendsIf w (Reach w f) m n} {Q = ExtendsIf w (Reach w (Named c.args.name.now)) c.args.marks.now n} c.call.result (λ y. ExtendsIf-then (Reach w (Named c.args.name.now)) (ExtendsIf-of (Reach w (Named c.args.name.now)) x) (y (Named c.args.name.now) c.in_ok-row.ensures.stands) (λ r s. r) (λ r s. r)) c.call.ensures.extends
