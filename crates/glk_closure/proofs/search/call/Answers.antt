use Rattle.std.proofs.Common.{rules, ◌<◌, true, refl, length, ap, arith}
use Rattle.std.specs.Vec.{with_item}
use Rattle.glk_closure.specs.declared.marks.Marks.{Marks}
use Rattle.glk_closure.specs.declared.marks.WaitingRow.{WaitingRow}
use Rattle.glk_closure.specs.Graph.{Graph}
use Rattle.glk_closure.specs.Reach.{Reach}
use Rattle.glk_closure.specs.Rows.{Stands}
use Rattle.glk_closure.proofs.Growth.{ExtendsIf-then}
use Rattle.glk_closure.proofs.Rowing.{Extends-called, c_here, row_read_methods}
use Rattle.glk_closure.proofs.search.call.Goals as goal

pub returns-clause-extends : goal.returns-clause-extends
returns-clause-extends g c = λ f at.
    let w : Graph = g.P.Program.graph c.args.program.now in
    let b : Marks = c.wake.new.marks in
    let v : WaitingRow = record { called = true; methods = c.index_mut.result.now.methods } in
    let d : Marks = record b { rows = with_item b.rows c.args.row v } in
    let e = c.in_ok-wake.ensures in
    let x = e.extends f at in
    let within : c.args.row < length b.rows.items = omega (arith, c.requires.row, ap length e.same.rows) in
    let stands : Stands b.calls c.args.row f = rw e.same.calls at in
    ExtendsIf-then (Reach w f) x (Extends-called w b d (record { kept = refl; iface = refl; work = refl }) f c.args.row v stands within refl (search rules) refl (row_read_methods b.rows.items c.args.row c.index_mut.result.now within c.index_mut.ensures.value) (λ y h. e.kept y (rw e.same.rows at h)) (x.covers c.requires.covers)) (λ r s. r) (λ r s. r)

pub returns-clause-called : goal.returns-clause-called
returns-clause-called g c = λ f at.
    let w : Graph = g.P.Program.graph c.args.program.now in
    let b : Marks = c.wake.new.marks in
    let v : WaitingRow = record { called = true; methods = c.index_mut.result.now.methods } in
    let d : Marks = record b { rows = with_item b.rows c.args.row v } in
    let e = c.in_ok-wake.ensures in
    let within : c.args.row < length b.rows.items = omega (arith, c.requires.row, ap length e.same.rows) in
    let stands : Stands b.calls c.args.row f = rw e.same.calls at in
    (c.args.row, stands, c_here w b d (record { kept = refl; iface = refl; work = refl }) f c.args.row v stands within refl (search rules))
