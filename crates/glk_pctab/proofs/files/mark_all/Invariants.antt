use Rattle.std.proofs.Common.{◌≡◌, ℕ, length, cond, get_or, true, false}
use Rattle.glk_pctab.specs.Functions.{entries_named}
use Rattle.glk_pctab.specs.Section.{is_number_among}
use Rattle.glk_pctab.specs.Views.{functions_view, units_view}
use Rattle.glk_pctab.specs.Building.{AllHaveUnit}
use Rattle.glk_pctab.proofs.files.mark_all.Given as goal

abbrev pub invariant-loop-rest : goal.invariant-loop-rest
invariant-loop-rest l = record {
  units : AllHaveUnit (length l.units) (functions_view l.rest);
  marks : (k : ℕ) → cond (get_or l.named k false) true (is_number_among (entries_named (units_view l.units) (functions_view l.rest)) k)
      ≡ cond (get_or l.fn.named k false) true (is_number_among (entries_named (units_view l.units) (functions_view l.functions)) k);
}

abbrev pub decreases-loop-rest : goal.decreases-loop-rest
decreases-loop-rest l = length l.rest
