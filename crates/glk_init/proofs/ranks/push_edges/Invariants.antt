use Rattle.std.proofs.Common.{◌≡◌, ◌<◌, ◌^◌, ◌++◌, length, take}
use Rattle.std.specs.List.{filter_map}
use Rattle.glk_init.specs.Ranks.{rank_edges}
use Rattle.glk_init.proofs.ranks.push_edges.Given as goal

abbrev pub invariant-loop-edge : goal.invariant-loop-edge
invariant-loop-edge l =
    (l.edges.items ≡ l.fn.edges.items ++ rank_edges l.ranks l.rank (filter_map (λ e. e.target) (take l.edge-index l.targets)))
    × (length l.edges.items < 2 ^ 32)
