use Rattle.std.proofs.Common.{ℕ, ◌<◌, ◌^◌}
use Rattle.glk_keys.specs.Definitions.{size_at}
use Rattle.glk_keys.proofs.rows.Rows.sizes_fit.Given as goal

abbrev pub invariant-loop-id : goal.invariant-loop-id
invariant-loop-id l = (r : ℕ) → r < l.id → size_at l.self r < 2 ^ 32
