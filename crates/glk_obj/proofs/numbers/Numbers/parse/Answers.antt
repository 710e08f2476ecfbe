use Rattle.std.proofs.Common.{◌≡◌, ◌+◌, ◌-◌, ◌^◌, min, rules}
use Rattle.glk_base.specs.Lines.{lines}
use Rattle.glk_obj.proofs.NumberLines.{parse_taken, parse_refused, parse_kinds, parse_others}
use Rattle.glk_obj.proofs.numbers.Numbers.parse.Goals as goal

pub returns-in-None-clause-bad : goal.returns-in-None-clause-bad
returns-in-None-clause-bad c =
    let parsed = rw c.in-Some.is at c.loop-rest.invariant in
    parse_refused (lines c.args.text.now) c.loop-rest.table c.in-Some.left c.cut_line.result.0.now c.trim.result.now c.cut_line.result.1 c.loop-rest.number parsed c.cut_line.ensures c.trim.ensures c.in-None.ensures

pub loop-rest-preserved : goal.loop-rest-preserved
loop-rest-preserved c =
    let parsed = rw c.in-Some.is at c.loop-rest.invariant in
    let next : c.saturating_add-number.result ≡ min (c.loop-rest.number + 1) (2 ^ 32 - 1) = search rules in
    parse_taken (lines c.args.text.now) c.loop-rest.table c.in-Some-with_line.next c.in-Some.left c.cut_line.result.0.now c.trim.result.now c.cut_line.result.1 c.loop-rest.number c.saturating_add-number.result parsed c.cut_line.ensures c.trim.ensures c.in-Some-with_line.ensures next

pub returns-clause-kinds : goal.returns-clause-kinds
returns-clause-kinds c =
    let parsed = rw c.in_default.is at c.loop-rest.invariant in
    λ kind number. parse_kinds (lines c.args.text.now) c.loop-rest.table c.loop-rest.number parsed kind number

pub returns-clause-others : goal.returns-clause-others
returns-clause-others c =
    let parsed = rw c.in_default.is at c.loop-rest.invariant in
    parse_others (lines c.args.text.now) c.loop-rest.table c.loop-rest.number parsed
