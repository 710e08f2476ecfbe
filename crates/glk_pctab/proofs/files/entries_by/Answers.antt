use Rattle.std.proofs.Common.{arith}
use Rattle.glk_pctab.specs.Views.{texts_of}
use Rattle.glk_pctab.proofs.FileSteps.{entries_more, entries_done, texts_counted}
use Rattle.glk_pctab.proofs.files.entries_by.Goals as goal

pub loop-index-preserved : goal.loop-index-preserved
loop-index-preserved c =
    entries_more c.args.named.now (texts_of c.args.files.now) c.loop-index.index c.push.new.self.items c.loop-index.entries.items c.entry_at.result _ (omega (arith, texts_counted c.args.files.now)) c.in_ok-push.ensures.items c.entry_at.ensures c.loop-index.invariant

pub returns : goal.returns
returns c = entries_done c.args.named.now (texts_of c.args.files.now) c.loop-index.index _ _ (omega (arith, texts_counted c.args.files.now)) c.loop-index.invariant
