use Rattle.std.proofs.Common.{◌≡◌, ◌<◌, ◌+◌, ◌*◌, ◌^◌, ◌++◌, length}
use Rattle.glk_pctab.specs.Section.{functab, starts}
use Rattle.glk_pctab.specs.Views.{functions_view}
use Rattle.glk_pctab.specs.Building.{offsets_from, end_from, AllAreSmall}
use Rattle.glk_pctab.proofs.records.push_functab.Given as goal

abbrev pub invariant-loop-rest : goal.invariant-loop-rest
invariant-loop-rest l = record {
  small : AllAreSmall (functions_view l.rest);
  short : end_from l.at (functions_view l.rest) < 2 ^ 32;
  bytes : l.out.items ++ functab (starts (functions_view l.rest)) (offsets_from l.at (functions_view l.rest)) l.size
      ≡ l.fn.out.items ++ functab (starts (functions_view l.functions)) (offsets_from (8 * length l.functions + 4) (functions_view l.functions)) l.size;
}

abbrev pub decreases-loop-rest : goal.decreases-loop-rest
decreases-loop-rest l = length l.rest
