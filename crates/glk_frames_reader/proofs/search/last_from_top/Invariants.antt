use Rattle.std.proofs.Common.{◌≡◌, ◌≤◌}
use Rattle.glk_frames.specs.Region.{function_count, start_of, last_below}
use Rattle.glk_frames_reader.proofs.search.last_from_top.Given as goal

abbrev pub invariant-loop-n : goal.invariant-loop-n
invariant-loop-n l = record {
  inside : l.n ≤ function_count l.region;
  same : last_below (start_of l.region) l.off l.n ≡ last_below (start_of l.region) l.off (function_count l.region);
}

abbrev pub decreases-loop-n : goal.decreases-loop-n
decreases-loop-n l = l.n
