use Rattle.glk_arena.proofs.ImportRefLemmas.{entries_more}
use Rattle.glk_arena.proofs.imports.add_object.Goals as goal

pub loop-entry-preserved : goal.loop-entry-preserved
loop-entry-preserved c = entries_more c.args.owner c.args.object c.loop-entry.entry c.args.refs.now.items c.loop-entry.refs.items c.push.new.self.items c.loop-entry.invariant c.in_ok-push.ensures.items
