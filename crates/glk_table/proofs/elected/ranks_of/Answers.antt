use Rattle.std.proofs.Common.{refl}
use Rattle.std.specs.Mem.Slots.{slots_items}
use Rattle.glk_table.proofs.Arrays.{one_made}
use Rattle.glk_table.proofs.elected.ranks_of.Goals as goal

pub loop-at-preserved : goal.loop-at-preserved
loop-at-preserved c =
    let words = slots_items c.args.closed.now.words in
    rw c.in_ok-push.ensures.items (one_made (λ w. w) words c.args.size c.loop-at.at 0 c.loop-at.ranks.items c.word.result c.rank_index.result c.word.result
    c.loop-at.invariant c.rank_index.ensures c.word.ensures refl)
