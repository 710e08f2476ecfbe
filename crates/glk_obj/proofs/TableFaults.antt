-- The faults of the tables of indices.
use Rattle.std.proofs.Common.{ℕ, List, arith}
use Rattle.glk_obj.specs.Layout.{HasLayout}
use Rattle.glk_obj.specs.Rules.{IsTable, TableFault}
use Rattle.glk_obj.proofs.BlockOrder.{table_whole}
use Rattle.glk_obj.proofs.LeastOffsets.{LiesWithin}

pub table_lies : (b : List ℕ) → HasLayout b → LiesWithin b IsTable (TableFault b)
table_lies b layout = record {
  block = λ t among. omega (arith, among.1);
  from = λ t offset among fault. omega (arith, fault.at);
  to = λ t offset among fault. omega (arith, fault.at, fault.inside, table_whole b t layout among);
}
