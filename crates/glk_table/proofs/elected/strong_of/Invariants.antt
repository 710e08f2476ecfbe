use Rattle.std.specs.Mem.Slots.{slots_items}
use Rattle.std.specs.Prelude.{◌*◌}
use Rattle.glk_table.specs.Elections.{AreMade, strong_in_word}
use Rattle.glk_table.proofs.elected.strong_of.Given as goal

abbrev pub invariant-loop-at : goal.invariant-loop-at
invariant-loop-at l = AreMade strong_in_word (slots_items l.closed.words) (2 * l.size) l.at 0 l.strong.items
