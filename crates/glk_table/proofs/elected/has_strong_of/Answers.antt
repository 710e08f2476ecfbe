use Rattle.std.proofs.Common.{refl, ◌*◌}
use Rattle.std.specs.Mem.Slots.{slots_items}
use Rattle.std.specs.Prelude.{nat_lt, false}
use Rattle.glk_table.proofs.Arrays.{one_made}
use Rattle.glk_table.proofs.elected.has_strong_of.Goals as goal

pub loop-at-preserved : goal.loop-at-preserved
loop-at-preserved c =
    let words = slots_items c.args.closed.now.words in
    rw c.in_ok-push.ensures.items (one_made (nat_lt 0) words (2 * c.args.size) c.loop-at.at false c.loop-at.has.items c.word-word.result c.strong_index.result (nat_lt 0 c.word-word.result)
    c.loop-at.invariant c.strong_index.ensures c.word-word.ensures refl)
