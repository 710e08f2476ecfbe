use Rattle.std.proofs.Common.{◌≡◌, ◌+◌, ◌++◌, drop}
use Rattle.glk_objdesc.specs.Sizes.{sum_of}
use Rattle.glk_objdesc.specs.Fields.{u32s_bytes, prefix_sums}
use Rattle.glk_objdesc.proofs.write.push_offsets.Given as goal

abbrev pub invariant-loop-length : goal.invariant-loop-length
invariant-loop-length l = record {
  sum : l.at + sum_of (drop l.length-index l.lengths) ≡ l.start + sum_of l.lengths;
  bytes : l.out.items ++ u32s_bytes (prefix_sums l.at (drop l.length-index l.lengths)) ≡ l.fn.out.items ++ u32s_bytes (prefix_sums l.start l.lengths);
}
