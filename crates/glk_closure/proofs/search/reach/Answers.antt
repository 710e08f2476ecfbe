use Rattle.std.proofs.Common.{rules}
use Rattle.glk_closure.specs.declared.marks.Marks.{Marks}
use Rattle.glk_closure.specs.Graph.{Graph}
use Rattle.glk_closure.specs.Reach.{Kept}
use Rattle.glk_closure.proofs.Growth.{Extends-trans}
use Rattle.glk_closure.proofs.Turns.{Searching-start, IsBlank, blank_covers}
use Rattle.glk_closure.proofs.search.reach.Goals as goal

pub loop-effects-init : goal.loop-effects-init
loop-effects-init g c =
    let w : Graph = g.P.Program.graph c.args.program.now in
    let a : Marks = record { kept = c.in_ok-new.field-0; iface = c.in_ok-new-2.field-0; work = c.new-3.result; calls = c.new-4.result; rows = c.new-5.result } in
    let blank : IsBlank w a = record { kept = search rules; iface = search rules; work = c.new-3.ensures.items; calls = c.new-4.ensures; rows = c.new-5.ensures.items } in
    let x = c.in_ok-mark_roots.ensures.extends in
    let y = c.in_ok-mark_flagged.ensures.extends in
    Searching-start w a c.mark_flagged.new.marks blank (Extends-trans x y) (λ r h d. y.grows.keeps (Kept r) (c.in_ok-mark_roots.ensures.roots r h d)) c.in_ok-mark_flagged.ensures.flagged

pub mark_flagged-requires : goal.mark_flagged-requires
mark_flagged-requires g c =
    let w : Graph = g.P.Program.graph c.args.program.now in
    let a : Marks = record { kept = c.in_ok-new.field-0; iface = c.in_ok-new-2.field-0; work = c.new-3.result; calls = c.new-4.result; rows = c.new-5.result } in
    let blank : IsBlank w a = record { kept = search rules; iface = search rules; work = c.new-3.ensures.items; calls = c.new-4.ensures; rows = c.new-5.ensures.items } in
    record { covers = c.in_ok-mark_roots.ensures.extends.covers (blank_covers w a blank) }

pub returns-clause-least : goal.returns-clause-least
returns-clause-least g c = c.in_ok-turn.ensures.finished (search rules)
