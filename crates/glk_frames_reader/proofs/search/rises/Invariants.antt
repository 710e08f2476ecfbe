use Rattle.std.proofs.Common.{◌<◌, ◌≤◌, ℕ}
use Rattle.glk_frames.specs.Region.{start_of}
use Rattle.glk_frames_reader.proofs.search.rises.Given as goal

abbrev pub invariant-loop-i : goal.invariant-loop-i
invariant-loop-i l = (k j : ℕ) → k < j → j < l.i → start_of l.region k ≤ start_of l.region j
