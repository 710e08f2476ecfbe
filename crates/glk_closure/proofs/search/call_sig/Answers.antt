use Rattle.std.proofs.lemmas.Result.{on_ok_weaker}
use Rattle.glk_closure.specs.declared.marks.Marks.{Marks}
use Rattle.glk_closure.specs.Graph.{Graph}
use Rattle.glk_closure.specs.Reach.{Fact, Sig, Reach}
use Rattle.glk_closure.specs.Rows.{Stands}
use Rattle.glk_closure.specs.Marks.{Extends, ExtendsIf}
use Rattle.glk_closure.proofs.Growth.{ExtendsIf-then, ExtendsIf-of}
use Rattle.glk_closure.proofs.Rowing.{row_within}
use Rattle.glk_closure.proofs.search.call_sig.Goals as goal

pub sig_row-requires-clause-rows : goal.sig_row-requires-clause-rows
sig_row-requires-clause-rows g c =
    let w : Graph = g.P.Program.graph c.args.program.now in
    let a : Marks = c.args.marks.now in
    let l : Marks = c.named_row.new.self in
    let x0 : Extends w a l = c.in_ok-named.ensures.extends w in
    (x0.covers c.requires.covers).rows

pub call-requires-clause-row : goal.call-requires-clause-row
call-requires-clause-row g c =
    let w : Graph = g.P.Program.graph c.args.program.now in
    let a : Marks = c.args.marks.now in
    let l : Marks = c.named_row.new.self in
    let x0 : Extends w a l = c.in_ok-named.ensures.extends w in
    let m : Marks = c.sig_row.new.self in
    let x1 : Extends w l m = c.in_ok-row.ensures.extends w in
    row_within m w.keys c.in_ok-row.row (Sig c.args.name.now c.args.of) (x1.covers (x0.covers c.requires.covers)) c.in_ok-row.ensures.stands

pub call-requires-clause-covers : goal.call-requires-clause-covers
call-requires-clause-covers g c =
    let w : Graph = g.P.Program.graph c.args.program.now in
    let a : Marks = c.args.marks.now in
    let l : Marks = c.named_row.new.self in
    let x0 : Extends w a l = c.in_ok-named.ensures.extends w in
    let m : Marks = c.sig_row.new.self in
    let x1 : Extends w l m = c.in_ok-row.ensures.extends w in
    x1.covers (x0.covers c.requires.covers)

pub returns-clause-extends : goal.returns-clause-extends
returns-clause-extends g c =
    let w : Graph = g.P.Program.graph c.args.program.now in
    let a : Marks = c.args.marks.now in
    let l : Marks = c.named_row.new.self in
    let x0 : Extends w a l = c.in_ok-named.ensures.extends w in
    let m : Marks = c.sig_row.new.self in
    let x1 : Extends w l m = c.in_ok-row.ensures.extends w in
    let n : Marks = c.call.new.marks in
    let R = Reach w (Sig c.args.name.now c.args.of) in
    on_ok_weaker {P = (f : Fact) → Stands m.calls c.in_ok-row.row f → ExtendsIf w (Reach w f) m n} {Q = ExtendsIf w R a n} c.call.result (λ y. ExtendsIf-then R (ExtendsIf-then R (ExtendsIf-of R x0) (ExtendsIf-of R x1) (λ r s. r) (λ r s. r)) (y (Sig c.args.name.now c.args.of) c.in_ok-row.ensures.stands) (λ r s. r) (λ r s. r)) c.call.ensures.extends
