use Rattle.std.specs.Mem.Slots.{slots_items}
use Rattle.glk_table.specs.Elections.{AreMade}
use Rattle.glk_table.proofs.elected.ranks_of.Given as goal

abbrev pub invariant-loop-at : goal.invariant-loop-at
invariant-loop-at l = AreMade (λ w. w) (slots_items l.closed.words) l.size l.at 0 l.ranks.items
