use Rattle.std.proofs.Common.{◌≡◌, ◌++◌, map, take}
use Rattle.std.specs.List.{filter_map}
use Rattle.glk_closure.specs.Graph.{Keeps}
use Rattle.glk_closure.specs.Views.{effect_view}
use Rattle.glk_init.proofs.reached.push_targets.Given as goal

abbrev pub invariant-loop-edge : goal.invariant-loop-edge
invariant-loop-edge l =
    map effect_view l.out.items
    ≡ map effect_view l.fn.out.items ++ map Keeps (filter_map (λ e. e.target) (take l.edge-index l.edges))
