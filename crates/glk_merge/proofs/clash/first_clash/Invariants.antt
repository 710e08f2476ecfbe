use Rattle.std.proofs.Common.{◌≡◌, ℕ, ◌<◌, None}
use Rattle.glk_keys.specs.Clashes.{clash_at}
use Rattle.glk_merge.proofs.clash.first_clash.Given as goal

abbrev pub invariant-loop-id : goal.invariant-loop-id
invariant-loop-id l = (q : ℕ) → q < l.id → clash_at l.rows q ≡ None
