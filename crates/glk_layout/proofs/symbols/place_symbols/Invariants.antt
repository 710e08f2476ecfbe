use Rattle.glk_layout.proofs.PlacingSteps.{SymbolsTo}
use Rattle.glk_layout.proofs.symbols.place_symbols.Given as goal

abbrev pub invariant-loop-i : goal.invariant-loop-i
invariant-loop-i l = SymbolsTo l.number l.start l.symbols l.fn.places l.places l.i l.end
