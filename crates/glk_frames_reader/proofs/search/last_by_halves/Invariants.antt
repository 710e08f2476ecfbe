use Rattle.std.proofs.Common.{◌-◌, ◌<◌, ◌≤◌, ℕ}
use Rattle.glk_frames.specs.Region.{function_count, start_of}
use Rattle.glk_frames_reader.proofs.search.last_by_halves.Given as goal

abbrev pub invariant-loop-low : goal.invariant-loop-low
invariant-loop-low l = record {
  inside : l.high ≤ function_count l.region;
  ordered : l.low ≤ l.high;
  below : (j : ℕ) → j < l.low → start_of l.region j ≤ l.off;
  above : (j : ℕ) → l.high ≤ j → j < function_count l.region → l.off < start_of l.region j;
}

abbrev pub decreases-loop-low : goal.decreases-loop-low
decreases-loop-low l = l.high - l.low
