use Rattle.std.proofs.Common.{◌≡◌, map, take}
use Rattle.std.specs.List.{All}
use Rattle.glk_keys.specs.Relocations.{auxes_of}
use Rattle.glk_merge.specs.Mergings.{IsTargetKey}
use Rattle.glk_functions.specs.Auxes.{named_aux}
use Rattle.glk_functions.proofs.auxes.fill_auxes.Given as goal

abbrev pub invariant-loop-i : goal.invariant-loop-i
invariant-loop-i l = record {
  value : l.out.items ≡ map (named_aux l.merged.program l.id.0) (take l.i (auxes_of l.merged.program l.id.0));
  keys : All (λ aux. IsTargetKey l.merged.program aux.target) l.out.items;
}
