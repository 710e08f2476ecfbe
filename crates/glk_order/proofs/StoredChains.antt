-- The chains as they are built and read.
use Rattle.std.proofs.Common.{◌≡◌, ◌-◌, ◌<◌, ◌≤◌, ◌^◌, ℕ, List, length, refl, arith, Option, Some, None}
use Rattle.std.specs.Option.{IfSome}
use Rattle.glk_order.specs.declared.edges.Edge.{Edge}
use Rattle.glk_order.specs.declared.edges.End.{End}
use Rattle.glk_order.specs.Chains.{last_edge}
use Rattle.glk_order.proofs.EdgeChains.{last_found}

-- an edge that is found has a small number
pub small_edge : (end : End) (edges : List Edge) (task n : ℕ) → n ≤ length edges → length edges < 2 ^ 32 → IfSome (last_edge end edges task n) (λ e. e < 2 ^ 32 - 1)
small_edge end edges task n inside few = by_case (last_edge end edges task n) refl where
  by_case : (o : Option ℕ) → last_edge end edges task n ≡ o → IfSome o (λ e. e < 2 ^ 32 - 1)
  by_case None is = tt
  by_case (Some e) is = let found = last_found end edges task n e is in omega (arith, found.0)
