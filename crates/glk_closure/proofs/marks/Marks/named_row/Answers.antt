use Rattle.std.proofs.Common.{rules, refl, false}
use Rattle.glk_closure.specs.declared.marks.Marks.{Marks}
use Rattle.glk_closure.specs.declared.marks.WaitingRow.{WaitingRow}
use Rattle.glk_closure.specs.Reach.{Named}
use Rattle.glk_closure.proofs.Rowing.{number_push, number_none}
use Rattle.glk_closure.proofs.marks.Marks.named_row.Goals as goal

pub returns-in_ok-push-clause-extends : goal.returns-in_ok-push-clause-extends
returns-in_ok-push-clause-extends c = λ w.
    let a : Marks = c.args.self.now in
    let v : WaitingRow = record { called = false; methods = c.new.result } in
    let b : Marks = record a { calls = c.named_row.new.self; rows = c.push.new.self } in
    number_push w a b (record { kept = refl; iface = refl; work = refl }) (Named c.args.name.now) c.in_ok-row.row c.in_ok-row.ensures c.requires v refl c.new.ensures.items (search rules) c.in_ok-push.ensures.items

pub returns-else-row-len-clause-extends : goal.returns-else-row-len-clause-extends
returns-else-row-len-clause-extends c = λ w.
    let a : Marks = c.args.self.now in
    let b : Marks = record a { calls = c.named_row.new.self } in
    number_none w a b (record { kept = refl; iface = refl; work = refl }) (Named c.args.name.now) c.in_ok-row.row c.in_ok-row.ensures c.requires (search rules) refl
