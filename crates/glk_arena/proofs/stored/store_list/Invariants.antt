use Rattle.std.proofs.Common.{◌≡◌, take, map}
use Rattle.std.specs.List.{All}
use Rattle.glk_arena.specs.Stored.{stored_data, IsStored}
use Rattle.glk_arena.proofs.stored.store_list.Given as goal

abbrev pub invariant-loop-object : goal.invariant-loop-object
invariant-loop-object l = record {
  same : map (stored_data l.file) l.list.items ≡ map (λ o. o.goobj) (take l.object-index l.objects);
  stored : All (IsStored l.file) l.list.items;
}
