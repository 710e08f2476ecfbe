use Rattle.std.proofs.Common.{◌≡◌, ◌<◌, ◌+◌, ◌*◌, ◌^◌, length}
use Rattle.glk_pctab.specs.Views.{functions_view}
use Rattle.glk_pctab.specs.Building.{end_from, AllAreSmall}
use Rattle.glk_pctab.proofs.records.records_size.Given as goal

abbrev pub invariant-loop-rest : goal.invariant-loop-rest
invariant-loop-rest l = record {
  small : AllAreSmall (functions_view l.rest);
  room : l.at + 2 ^ 20 * length l.rest < 2 ^ 53;
  end : end_from l.at (functions_view l.rest) ≡ end_from (8 * length l.functions + 4) (functions_view l.functions);
}

abbrev pub decreases-loop-rest : goal.decreases-loop-rest
decreases-loop-rest l = length l.rest
