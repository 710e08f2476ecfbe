use Rattle.std.proofs.Common.{◌≡◌, ◌-◌}
use Rattle.glk_frames.specs.Region.{function_count, start_of}
use Rattle.glk_frames.specs.Buckets.{forward}
use Rattle.glk_frames_reader.proofs.search.forward.Given as goal

abbrev pub invariant-loop-j : goal.invariant-loop-j
invariant-loop-j l =
    forward (start_of l.region) l.off (function_count l.region - l.j) l.j
    ≡ forward (start_of l.region) l.off (function_count l.region - l.begin) l.begin
