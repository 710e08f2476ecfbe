use Rattle.std.proofs.Common.{◌<◌, ℕ, get_or}
use Rattle.glk_tables.specs.Chains.{AreLengths}
use Rattle.glk_tables.proofs.calls.any_long.Given as goal

abbrev pub invariant-loop-k : goal.invariant-loop-k
invariant-loop-k l = record {
  lengths : AreLengths l.callers l.lengths.items;
  known : (j : ℕ) → j < l.k → 0 < get_or l.lengths.items j 0;
}
