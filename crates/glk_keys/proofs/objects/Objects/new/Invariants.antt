use Rattle.std.proofs.Common.{◌≡◌, take}
use Rattle.glk_arena.specs.World.{objects_of}
use Rattle.glk_keys.specs.ObjectTables.{AreTables}
use Rattle.glk_keys.proofs.objects.Objects.new.Given as goal

abbrev pub invariant-loop-n : goal.invariant-loop-n
invariant-loop-n l = record {
  views : l.views.items ≡ take l.n (objects_of l.loaded);
  tables : AreTables (take l.n (objects_of l.loaded)) l.blocks.items l.firsts.items l.owners.items;
}
