use Rattle.std.proofs.Common.{◌≡◌, map, take, slice_index}
use Rattle.std.specs.List.{filter}
use Rattle.glk_init.specs.Order.{has_functions}
use Rattle.glk_init.proofs.order.list_tasks.Given as goal

abbrev pub invariant-loop-rank : goal.invariant-loop-rank
invariant-loop-rank g l =
    l.list.items ≡ filter (has_functions (g.P.InitProgram.graph l.program)) (map (slice_index l.ranked) (take l.rank-index l.order))
