use Rattle.std.proofs.Common.{sym}
use Rattle.glk_pcval.proofs.TableLemmas.{ranges_go, ranges_stop, ranges_bad}
use Rattle.glk_pcval.proofs.steps.first_range.Goals as goal

pub returns-in-Range : goal.returns-in-Range
returns-in-Range c = rw c.after.ensures (ranges_go c.args.from c.in-Range.state c.args.bytes.now c.in-Range.size (sym c.in-Range.ensures.value) c.in-Range.ensures.inside.0)

pub returns-in-Stop : goal.returns-in-Stop
returns-in-Stop c = ranges_stop c.args.from c.args.bytes.now _ (sym c.in-Stop.ensures.value)

pub returns-in-Broken : goal.returns-in-Broken
returns-in-Broken c = ranges_bad c.args.from c.args.bytes.now _ (sym c.in-Broken.ensures.value)
