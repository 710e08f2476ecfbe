use Rattle.std.proofs.Common.{◌≡◌, ◌<◌, ℕ, List, length}
use Rattle.glk_pcval.specs.Table.{ranges}
use Rattle.glk_tables.specs.Calls.{caller}
use Rattle.glk_tables.specs.Chains.{link}
use Rattle.glk_tables.proofs.calls.callers_by.Given as goal

abbrev pub invariant-loop-k : goal.invariant-loop-k
invariant-loop-k l = record {
  count : length l.callers.items ≡ l.k;
  each : (table : List ℕ) → l.list ≡ ranges table → (j : ℕ) → j < l.k → link l.callers.items j ≡ caller l.info table j;
}
