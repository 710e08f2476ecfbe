use Rattle.std.proofs.Common.{◌≡◌, ◌≤◌, ◌*◌, ◌^◌, take}
use Rattle.std.specs.List.{sum_by}
use Rattle.glk_layout.specs.Symbols.{name_room}
use Rattle.glk_layout.proofs.symbols.names_room.Given as goal

abbrev pub invariant-loop-symbol : goal.invariant-loop-symbol
invariant-loop-symbol l = record {
  sum : l.length ≡ sum_by name_room (take l.symbol-index l.symbols);
  small : l.length ≤ l.symbol-index * 2 ^ 32;
}
