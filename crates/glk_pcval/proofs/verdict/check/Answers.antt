use Rattle.std.proofs.Common.{◌≡◌, None, Some, ◌+◌, sym, arith}
use Rattle.glk_pcval.specs.Table.{fault}
use Rattle.glk_pcval.proofs.FaultLemmas.{here_bad, here_end, here_more, here_go}
use Rattle.glk_pcval.proofs.SoundLemmas.{accepted, refused}
use Rattle.glk_pcval.proofs.verdict.check.Goals as goal
use Rattle.glk_pcval.proofs.verdict.check.Goals.{In-Broken, Then-table-at}

broken : (c : In-Broken) → fault c.args.table.now ≡ Some (c.loop-more.at + c.in-Broken.more)
broken c = here_bad c.args.table.now c.loop-more.from c.loop-more.at c.in-Broken.more c.loop-more.invariant.same (sym (rw c.after.ensures at c.in-Broken.ensures.value))

pub returns-in-Broken-clause-offset : goal.returns-in-Broken-clause-offset
returns-in-Broken-clause-offset c = broken c

pub returns-in-Broken-clause-accepts : goal.returns-in-Broken-clause-accepts
returns-in-Broken-clause-accepts c = refused c.args.table.now _ (broken c)

whole : (c : Then-table-at) → fault c.args.table.now ≡ None
whole c = here_end c.args.table.now c.loop-more.from c.loop-more.at c.in-Stop.size c.loop-more.invariant.same (sym (rw c.after.ensures at c.in-Stop.ensures.value)) (omega arith)

pub returns-then-table-at-clause-whole : goal.returns-then-table-at-clause-whole
returns-then-table-at-clause-whole c = whole c

pub returns-then-table-at-clause-accepts : goal.returns-then-table-at-clause-accepts
returns-then-table-at-clause-accepts c = accepted c.args.table.now (whole c)

pub returns-in-Stop-clause-offset : goal.returns-in-Stop-clause-offset
returns-in-Stop-clause-offset c = here_more c.args.table.now c.loop-more.from c.loop-more.at c.in-Stop.size c.loop-more.invariant.same (sym (rw c.after.ensures at c.in-Stop.ensures.value)) (omega arith)

pub returns-in-Stop-clause-accepts : goal.returns-in-Stop-clause-accepts
returns-in-Stop-clause-accepts c = refused c.args.table.now _ (here_more c.args.table.now c.loop-more.from c.loop-more.at c.in-Stop.size c.loop-more.invariant.same (sym (rw c.after.ensures at c.in-Stop.ensures.value)) (omega arith))

pub loop-more-preserved : goal.loop-more-preserved
loop-more-preserved c =
    let r = here_go c.args.table.now c.loop-more.from c.in-Range.state c.loop-more.at c.in-Range.size c.loop-more.invariant.inside c.loop-more.invariant.same (sym (rw c.after.ensures at c.in-Range.ensures.value)) (rw c.after.ensures at c.in-Range.ensures.inside) in
    record { inside = r.0; same = r.1 }
