use Rattle.std.proofs.Common.{◌*◌}
use Rattle.std.specs.Mem.Slots.{slots_items}
use Rattle.glk_table.specs.Elections.{id_in_word}
use Rattle.glk_table.proofs.Arrays.{one_made}
use Rattle.glk_table.proofs.elected.keys_of.Goals as goal

pub loop-at-preserved : goal.loop-at-preserved
loop-at-preserved c =
    let words = slots_items c.args.closed.now.words in
    rw c.in_ok-push.ensures.items (one_made id_in_word words (3 * c.args.size) c.loop-at.at 0 c.loop-at.keys.items c.word-word.result c.id_index.result c.min.result
    c.loop-at.invariant c.id_index.ensures c.word-word.ensures c.min.ensures)
