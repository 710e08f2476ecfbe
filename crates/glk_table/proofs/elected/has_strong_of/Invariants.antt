use Rattle.std.specs.Mem.Slots.{slots_items}
use Rattle.std.specs.Prelude.{◌*◌, nat_lt, false}
use Rattle.glk_table.specs.Elections.{AreMade}
use Rattle.glk_table.proofs.elected.has_strong_of.Given as goal

abbrev pub invariant-loop-at : goal.invariant-loop-at
invariant-loop-at l = AreMade (nat_lt 0) (slots_items l.closed.words) (2 * l.size) l.at false l.has.items
