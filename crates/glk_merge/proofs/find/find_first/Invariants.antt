use Rattle.std.proofs.Common.{◌≡◌, ℕ, ◌<◌, false}
use Rattle.glk_keys.specs.Keys.{named, row_key, same_key}
use Rattle.glk_keys.specs.Rows.{row_at}
use Rattle.glk_merge.proofs.find.find_first.Given as goal

abbrev pub invariant-loop-id : goal.invariant-loop-id
invariant-loop-id l = (k : ℕ) → k < l.id → same_key (named l.name l.abi) (row_key (row_at l.rows k)) ≡ false
