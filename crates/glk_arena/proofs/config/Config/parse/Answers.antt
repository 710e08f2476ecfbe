use Rattle.std.proofs.Common.{rules}
use Rattle.glk_base.specs.Lines.{lines}
use Rattle.glk_arena.specs.ConfigViews.{file_in}
use Rattle.glk_arena.proofs.ConfigLemmas.{start_taken, more_taken, wrong_taken, all_good, all_files, not_good}
use Rattle.glk_arena.proofs.config.Config.parse.Goals as goal

pub loop-rest-init : goal.loop-rest-init
loop-rest-init c = start_taken c.args.text (file_in c.new-config.result) c.new-config.ensures

pub returns-then-not-branch-clause-bad : goal.returns-then-not-branch-clause-bad
returns-then-not-branch-clause-bad c =
    let had = rw c.in-Some.is at c.loop-rest.invariant in
    wrong_taken (lines c.args.text.now) c.in-Some.left c.cut_line.result.0.now c.trim.result.now c.cut_line.result.1 c.loop-rest.number (file_in c.loop-rest.config) had c.cut_line.ensures c.trim.ensures
    (not_good c.in_ok-take_line.field-0 c.if-not-branch.true c.in_ok-take_line.ensures.good.1)

pub loop-rest-preserved : goal.loop-rest-preserved
loop-rest-preserved c =
    let had = rw c.in-Some.is at c.loop-rest.invariant in
    more_taken (lines c.args.text.now) c.in-Some.left c.cut_line.result.0.now c.trim.result.now c.cut_line.result.1 c.loop-rest.number c.saturating_add-number.result (file_in c.loop-rest.config) (file_in c.take_line.new.self) had c.cut_line.ensures c.trim.ensures
    (c.in_ok-take_line.ensures.good.0 c.if-not-branch.false) (search rules) c.in_ok-take_line.ensures.files.each

pub returns-clause-good : goal.returns-clause-good
returns-clause-good c =
    let had = rw c.in_default.is at c.loop-rest.invariant in
    all_good (lines c.args.text.now) c.loop-rest.number (file_in c.loop-rest.config) had

pub returns-clause-files : goal.returns-clause-files
returns-clause-files c =
    let had = rw c.in_default.is at c.loop-rest.invariant in
    all_files (lines c.args.text.now) c.loop-rest.number (file_in c.loop-rest.config) had
