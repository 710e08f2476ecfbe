use Rattle.std.proofs.Common.{◌≡◌, length}
use Rattle.glk_order.specs.Chains.{AreLasts, AreBefores}
use Rattle.glk_order.proofs.chains.Chains.new.Given as goal

abbrev pub invariant-loop-i : goal.invariant-loop-i
invariant-loop-i l = record {
  tasks : length l.lasts.items ≡ l.count;
  size : length l.befores.items ≡ l.i;
  lasts : AreLasts l.end l.edges l.i l.lasts.items;
  befores : AreBefores l.end l.edges l.i l.befores.items;
}
