use Rattle.std.proofs.Common.{◌≡◌, ◌++◌, length, map}
use Rattle.std.specs.List.{All}
use Rattle.glk_merge.specs.Mergings.{IsTargetKey}
use Rattle.glk_tables.specs.Function.{IsSmall}
use Rattle.glk_tables.specs.Views.{target_view}
use Rattle.glk_functions.specs.Auxes.{all_named, bytes_of}
use Rattle.glk_functions.proofs.auxes.fill_bytes.Given as goal

abbrev pub invariant-loop-rest : goal.invariant-loop-rest
invariant-loop-rest l = record {
  value : map target_view l.out.items ++ map (bytes_of l.merged.program) (all_named l.kind l.rest)
      ≡ map (bytes_of l.merged.program) (all_named l.kind l.fn.auxes);
  small : All (λ target. IsSmall (target_view target)) l.out.items;
  keys : All (λ aux. IsTargetKey l.merged.program aux.target) l.rest;
}

abbrev pub decreases-loop-rest : goal.decreases-loop-rest
decreases-loop-rest l = length l.rest
