use Rattle.std.proofs.Common.{◌≡◌, ◌++◌, drop, All}
use Rattle.std.specs.Prelude.{flat_map}
use Rattle.glk_objdesc.proofs.records.push_records.Given as goal

abbrev pub invariant-loop-entry : goal.invariant-loop-entry
invariant-loop-entry g l = record {
  names : All (g.R.Record.short) (drop l.entry-index l.records);
  bytes : l.out.items ++ flat_map (g.R.Record.bytes l.pool) (drop l.entry-index l.records) ≡ l.fn.out.items ++ flat_map (g.R.Record.bytes l.pool) l.records;
}
