use Rattle.std.proofs.Common.{◌≡◌, ◌*◌, ◌≤◌, length}
use Rattle.glk_types.specs.Faults.{other_from}
use Rattle.glk_types.specs.Methods.{count_of, start_of}
use Rattle.glk_types.proofs.methods.other_offset.Given as goal

abbrev pub invariant-loop-rest : goal.invariant-loop-rest
invariant-loop-rest l = record {
  same : other_from (start_of l.methods) (count_of l.methods) 0 l.offsets ≡ other_from (start_of l.methods) (count_of l.methods) l.j l.rest;
  few : l.j ≤ 3 * count_of l.methods;
}

abbrev pub decreases-loop-rest : goal.decreases-loop-rest
decreases-loop-rest l = length l.rest
