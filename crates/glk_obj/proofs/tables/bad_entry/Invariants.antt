use Rattle.glk_obj.specs.Rules.{IsTable, TableFault}
use Rattle.glk_obj.proofs.LeastOffsets.{NoneBelow}
use Rattle.glk_obj.proofs.tables.bad_entry.Given as goal

abbrev pub invariant-loop-t : goal.invariant-loop-t
invariant-loop-t l = NoneBelow IsTable (TableFault l.bytes) l.t
