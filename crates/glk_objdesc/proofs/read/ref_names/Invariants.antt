use Rattle.std.proofs.Common.{◌≡◌}
use Rattle.glk_objdesc.specs.Described.{each_from}
use Rattle.glk_objdesc.specs.Described.{ref_name_desc}
use Rattle.glk_objdesc.proofs.read.ref_names.Given as goal

abbrev pub invariant-loop-k : goal.invariant-loop-k
invariant-loop-k l = l.items.items ≡ each_from (ref_name_desc l.view) 0 l.k
