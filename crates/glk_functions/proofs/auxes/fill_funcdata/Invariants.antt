use Rattle.std.proofs.Common.{◌≡◌, ◌++◌, length, map}
use Rattle.std.specs.List.{All}
use Rattle.glk_merge.specs.Mergings.{IsTargetKey}
use Rattle.glk_functions.specs.Auxes.{all_named, funcdata_of}
use Rattle.glk_functions.proofs.auxes.fill_funcdata.Given as goal

abbrev pub invariant-loop-rest : goal.invariant-loop-rest
invariant-loop-rest l = record {
  value : l.out.items ++ map (funcdata_of l.merged.program) (all_named l.kind l.rest)
      ≡ map (funcdata_of l.merged.program) (all_named l.kind l.fn.auxes);
  keys : All (λ aux. IsTargetKey l.merged.program aux.target) l.rest;
}

abbrev pub decreases-loop-rest : goal.decreases-loop-rest
decreases-loop-rest l = length l.rest
