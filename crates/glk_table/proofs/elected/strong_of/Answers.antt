use Rattle.std.proofs.Common.{◌*◌, arith}
use Rattle.std.specs.Mem.Slots.{slots_items}
use Rattle.glk_table.specs.Elections.{strong_in_word}
use Rattle.glk_table.proofs.Arrays.{one_made}
use Rattle.glk_table.proofs.elected.strong_of.Goals as goal

pub loop-at-preserved : goal.loop-at-preserved
loop-at-preserved c =
    let words = slots_items c.args.closed.now.words in
    rw c.in_ok-push.ensures.items (one_made strong_in_word words (2 * c.args.size) c.loop-at.at 0 c.loop-at.strong.items c.word-word.result c.strong_index.result c.min.result
    c.loop-at.invariant c.strong_index.ensures c.word-word.ensures (let less = c.saturating_sub.ensures in let least = c.min.ensures in omega arith))
