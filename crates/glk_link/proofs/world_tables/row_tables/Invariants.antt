use Rattle.glk_arena.specs.World.{objects_of}
use Rattle.glk_link.proofs.Rows.{AreTablesUpTo}
use Rattle.glk_link.proofs.world_tables.row_tables.Given as goal

abbrev pub invariant-loop-n : goal.invariant-loop-n
invariant-loop-n l = AreTablesUpTo (objects_of l.loaded) l.owners.items l.firsts.items l.n
