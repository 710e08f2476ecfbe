use Rattle.std.proofs.Common.{◌≡◌, ◌<◌, ℕ, get_or, length}
use Rattle.glk_obj.specs.Blocks.{offset_of}
use Rattle.glk_obj.proofs.blocks.Offsets.read.Given as goal

abbrev pub invariant-loop-k : goal.invariant-loop-k
invariant-loop-k l = record { size : length l.starts ≡ 19; same : (j : ℕ) → j < l.k → get_or l.starts j 0 ≡ offset_of l.bytes j }
