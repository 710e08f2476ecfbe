use Rattle.std.proofs.Common.{rules, subst}
use Rattle.glk_base.specs.Lines.{lines}
use Rattle.glk_arena.specs.BuiltinLines.{TakesLine}
use Rattle.glk_arena.proofs.BuiltinLemmas.{start_listed, more_listed, bad_listed, whole_good, whole_listed}
use Rattle.glk_arena.proofs.builtins.Builtins.parse.Goals as goal

pub loop-rest-init : goal.loop-rest-init
loop-rest-init c = start_listed c.args.text c.none-builtins.result c.none-builtins.ensures

pub returns-then-not-branch-clause-bad : goal.returns-then-not-branch-clause-bad
returns-then-not-branch-clause-bad c =
    let had = rw c.in-Some.is at c.loop-rest.invariant in
    bad_listed (lines c.args.text.now) c.in-Some.left c.cut_line.result.0.now c.trim.result.now c.cut_line.result.1 c.loop-rest.number c.loop-rest.builtins had c.cut_line.ensures c.trim.ensures
    (subst (TakesLine c.trim.result.now c.loop-rest.builtins c.take_line.new.self) c.if-not-branch.true c.in_ok-take_line.ensures)

pub loop-rest-preserved : goal.loop-rest-preserved
loop-rest-preserved c =
    let had = rw c.in-Some.is at c.loop-rest.invariant in
    more_listed (lines c.args.text.now) c.in-Some.left c.cut_line.result.0.now c.trim.result.now c.cut_line.result.1 c.loop-rest.number c.saturating_add-number.result c.loop-rest.builtins c.take_line.new.self had c.cut_line.ensures c.trim.ensures
    (subst (TakesLine c.trim.result.now c.loop-rest.builtins c.take_line.new.self) c.if-not-branch.false c.in_ok-take_line.ensures) (search rules)

pub returns-clause-good : goal.returns-clause-good
returns-clause-good c =
    let had = rw c.in_default.is at c.loop-rest.invariant in
    whole_good (lines c.args.text.now) c.loop-rest.builtins c.loop-rest.number had

pub returns-clause-list : goal.returns-clause-list
returns-clause-list c =
    let had = rw c.in_default.is at c.loop-rest.invariant in
    whole_listed (lines c.args.text.now) c.loop-rest.builtins c.loop-rest.number had
