use Rattle.std.proofs.Common.{◌≡◌, ◌+◌, ◌++◌, map, drop, List, ℕ}
use Rattle.glk_objdesc.specs.Canonical.{amount}
use Rattle.glk_objdesc.specs.Sizes.{total_of}
use Rattle.glk_objdesc.specs.Fields.{u32s_bytes, prefix_sums}
use Rattle.glk_objdesc.proofs.records.push_entries.Given as goal

abbrev pub invariant-loop-def : goal.invariant-loop-def
invariant-loop-def l = record {
  sum : l.at + total_of l.part (drop l.def-index l.defs) ≡ l.fn.from + total_of l.part l.defs;
  entries : (more : List ℕ) → l.out.items ++ u32s_bytes (prefix_sums l.at (map (amount l.part) (drop l.def-index l.defs) ++ more))
      ≡ l.fn.out.items ++ u32s_bytes (prefix_sums l.fn.from (map (amount l.part) l.defs ++ more));
}
