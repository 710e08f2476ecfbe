use Rattle.std.proofs.Common.{◌≡◌, ◌+◌, ◌<◌, ◌≤◌, ℕ}
use Rattle.glk_obj.specs.Blocks.{count, reloc_idx}
use Rattle.glk_obj.specs.Records.{definitions}
use Rattle.glk_obj.proofs.rules.short_table.Given as goal

abbrev pub invariant-loop-t : goal.invariant-loop-t
invariant-loop-t l = (j : ℕ) → reloc_idx ≤ j → j < l.t → count l.bytes j ≡ definitions l.bytes + 1
