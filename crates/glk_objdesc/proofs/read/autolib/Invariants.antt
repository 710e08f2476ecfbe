use Rattle.std.proofs.Common.{◌≡◌}
use Rattle.glk_objdesc.specs.Described.{each_from}
use Rattle.glk_obj.specs.Records.{autolib_at}
use Rattle.glk_objdesc.specs.Described.{autolib_desc}
use Rattle.glk_objdesc.proofs.read.autolib.Given as goal

abbrev pub invariant-loop-k : goal.invariant-loop-k
invariant-loop-k l = l.items.items ≡ each_from (λ j. autolib_desc (autolib_at l.view j)) 0 l.k
