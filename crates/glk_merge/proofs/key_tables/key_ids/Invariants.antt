use Rattle.std.proofs.Common.{◌≡◌, ℕ, ◌<◌, get_or, vec_len}
use Rattle.glk_keys.specs.Keys.{key_id}
use Rattle.glk_merge.proofs.key_tables.key_ids.Given as goal

abbrev pub invariant-loop-id : goal.invariant-loop-id
invariant-loop-id l = record {
  long : vec_len l.keys ≡ l.id;
  each : (r : ℕ) → r < l.id → get_or l.keys.items r 0 ≡ key_id l.rows r;
}
