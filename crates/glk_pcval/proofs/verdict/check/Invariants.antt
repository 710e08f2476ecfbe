use Rattle.std.proofs.Common.{◌≡◌, ◌-◌, ◌≤◌, length, drop}
use Rattle.glk_pcval.specs.Table.{fault, fault_from}
use Rattle.glk_pcval.proofs.verdict.check.Given as goal

abbrev pub invariant-loop-more : goal.invariant-loop-more
invariant-loop-more l = record {
  inside : l.at ≤ length l.table;
  same : fault_from 0 l.from l.at (drop l.at l.table) ≡ fault l.table;
}

abbrev pub decreases-loop-more : goal.decreases-loop-more
decreases-loop-more l = length l.table - l.at
