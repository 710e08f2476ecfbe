-- The faults of an order.
use Rattle.std.specs.Prelude.{List}
use Rattle.glk_base.specs.declared.fault.Fault.{Fault}
use Rattle.glk_base.specs.declared.fault.Fault.TheVariants as fault
use Rattle.glk_order.specs.declared.edges.Edge.{Edge}
use Rattle.glk_order.specs.declared.order.Cycle.{Cycle}
use Rattle.glk_order.specs.Order.{IsLeastOnCycle}

-- The fault names the least task on a cycle; or memory was wanting.
abbrev pub IsFaultOf : List Edge → Fault Cycle → Type 0
IsFaultOf edges (fault.Bad cycle) = IsLeastOnCycle edges cycle.least
IsFaultOf edges fault.OutOfMemory = Unit {0}
