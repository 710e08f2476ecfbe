use Rattle.std.proofs.Common.{◌≡◌}
use Rattle.glk_objdesc.specs.Described.{each_from}
use Rattle.glk_objdesc.specs.Described.{ref_flags_desc}
use Rattle.glk_obj.specs.Records.{ref_flags_at}
use Rattle.glk_objdesc.proofs.read.ref_flags.Given as goal

abbrev pub invariant-loop-k : goal.invariant-loop-k
invariant-loop-k l = l.items.items ≡ each_from (λ j. ref_flags_desc (ref_flags_at l.view j)) 0 l.k
