use Rattle.std.proofs.Common.{◌≡◌, ℕ, ◌<◌, get_or, vec_len}
use Rattle.glk_keys.specs.Definitions.{chosen_of}
use Rattle.glk_merge.specs.KeyTables.{choice_in}
use Rattle.glk_merge.specs.Mergings.{IsKey, IsRow}
use Rattle.glk_merge.proofs.key_tables.choices.Given as goal

abbrev pub invariant-loop-id : goal.invariant-loop-id
invariant-loop-id l = record {
  long : vec_len l.chosen ≡ l.id;
  each : (k : ℕ) → k < l.id → IsKey l.rows k → choice_in (get_or l.chosen.items k 0) ≡ chosen_of l.rows k;
  within : (k : ℕ) → k < l.id → IsKey l.rows k → IsRow l.rows (chosen_of l.rows k);
}
