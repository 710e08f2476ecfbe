use Rattle.std.proofs.Common.{◌≡◌, length}
use Rattle.glk_order.proofs.components.component_levels.Given as goal

abbrev pub invariant-loop : goal.invariant-loop
invariant-loop l = length l.levels.items ≡ l.count
