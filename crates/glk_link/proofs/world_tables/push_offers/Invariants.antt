use Rattle.std.proofs.Common.{◌≡◌, ◌++◌, [], map, get_or}
use Rattle.std.specs.List.{range_with_len}
use Rattle.glk_arena.specs.World.{objects_of}
use Rattle.glk_link.specs.Targets.{offer_of, package_named}
use Rattle.glk_link.proofs.world_tables.push_offers.Given as goal

abbrev pub invariant-loop-k : goal.invariant-loop-k
invariant-loop-k l = l.offers.items ≡ l.initial.offers.items ++ map (λ j. offer_of l.loaded (package_named l.loaded (get_or (objects_of l.loaded) l.n []) j)) (range_with_len 0 l.k)
