use Rattle.std.proofs.Common.{rules, ◌≡◌, ◌<◌, ◌++◌, ◌∷◌, [], List, refl, length, ap, ◌∙◌, arith}
use Rattle.std.specs.Vec.{with_item}
use Rattle.glk_closure.specs.declared.effect.Targets.{Targets}
use Rattle.glk_closure.specs.declared.marks.Marks.{Marks}
use Rattle.glk_closure.specs.declared.marks.WaitingRow.{WaitingRow}
use Rattle.glk_closure.specs.Graph.{Graph}
use Rattle.glk_closure.specs.Rows.{Stands}
use Rattle.glk_closure.specs.Marks.{methods_at, Backs}
use Rattle.glk_closure.proofs.Growth.{ExtendsIf-then}
use Rattle.glk_closure.proofs.Rowing.{Extends-waits, waits_here, row_read_methods, row_read_called}
use Rattle.glk_closure.proofs.search.wait.Goals as goal

pub returns-clause-extends : goal.returns-clause-extends
returns-clause-extends g c = λ f at.
    let w : Graph = g.P.Program.graph c.args.program.now in
    let b : Marks = c.keep_if_called.new.marks in
    let v : WaitingRow = record { called = c.index_mut.result.now.called; methods = c.push.new.self } in
    let d : Marks = record b { rows = with_item b.rows c.args.row v } in
    let e = c.in_ok-keep_if_called.ensures in
    let within : c.args.row < length b.rows.items = omega (arith, c.requires.row, ap length e.same.rows) in
    let stands : Stands b.calls c.args.row f = rw e.same.calls at in
    let more : v.methods.items ≡ methods_at b.rows.items c.args.row ++ c.args.targets ∷ [] = c.in_ok-push.ensures.items ∙ ap (λ (l : List Targets). l ++ c.args.targets ∷ []) (row_read_methods b.rows.items c.args.row c.index_mut.result.now within c.index_mut.ensures.value) in
    ExtendsIf-then (Backs w f c.args.targets) e.extends (Extends-waits w b d (record { kept = refl; iface = refl; work = refl }) f c.args.row v stands within refl (search rules) c.args.targets (row_read_called b.rows.items c.args.row c.index_mut.result.now within c.index_mut.ensures.value) more (λ h. e.kept (rw e.same.rows at h)) c.requires.below (e.extends.covers c.requires.covers)) (λ r s h. r (s.called f (c.args.row, at, h))) (λ r s. r)

pub returns-clause-waits : goal.returns-clause-waits
returns-clause-waits g c = λ f at.
    let w : Graph = g.P.Program.graph c.args.program.now in
    let b : Marks = c.keep_if_called.new.marks in
    let v : WaitingRow = record { called = c.index_mut.result.now.called; methods = c.push.new.self } in
    let d : Marks = record b { rows = with_item b.rows c.args.row v } in
    let e = c.in_ok-keep_if_called.ensures in
    let within : c.args.row < length b.rows.items = omega (arith, c.requires.row, ap length e.same.rows) in
    let stands : Stands b.calls c.args.row f = rw e.same.calls at in
    let more : v.methods.items ≡ methods_at b.rows.items c.args.row ++ c.args.targets ∷ [] = c.in_ok-push.ensures.items ∙ ap (λ (l : List Targets). l ++ c.args.targets ∷ []) (row_read_methods b.rows.items c.args.row c.index_mut.result.now within c.index_mut.ensures.value) in
    waits_here w b d (record { kept = refl; iface = refl; work = refl }) f c.args.row v stands within refl (search rules) c.args.targets more
