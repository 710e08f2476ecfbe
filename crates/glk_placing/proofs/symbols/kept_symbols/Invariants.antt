use Rattle.std.proofs.Common.{◌≡◌, take}
use Rattle.glk_placing.specs.KeptSymbols.{kept_symbols}
use Rattle.glk_placing.proofs.symbols.kept_symbols.Given as goal

abbrev pub invariant-loop-key : goal.invariant-loop-key
invariant-loop-key l = l.symbols.items ≡ kept_symbols l.merged.program (take l.key-index l.list)
