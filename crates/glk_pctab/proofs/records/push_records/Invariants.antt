use Rattle.std.proofs.Common.{◌≡◌, length}
use Rattle.glk_pctab.specs.Section.{with_records, records_from}
use Rattle.glk_pctab.specs.Views.{functions_view, units_view}
use Rattle.glk_pctab.specs.Building.{AllCanWrite}
use Rattle.glk_pctab.proofs.records.push_records.Given as goal

abbrev pub invariant-loop-rest : goal.invariant-loop-rest
invariant-loop-rest l = record {
  can_write : AllCanWrite (length l.units) l.tree (functions_view l.rest);
  bytes : with_records (records_from (units_view l.units) l.names.elements l.tables.elements l.tree (functions_view l.rest)) l.out.items
      ≡ with_records (records_from (units_view l.units) l.names.elements l.tables.elements l.trees (functions_view l.functions)) l.fn.out.items;
}

abbrev pub decreases-loop-rest : goal.decreases-loop-rest
decreases-loop-rest l = length l.rest
