use Rattle.std.proofs.Common.{◌≡◌}
use Rattle.glk_objdesc.specs.Described.{each_from}
use Rattle.glk_obj.specs.Records.{aux_at}
use Rattle.glk_objdesc.specs.Described.{aux_desc}
use Rattle.glk_objdesc.proofs.read.auxes.Given as goal

abbrev pub invariant-loop-k : goal.invariant-loop-k
invariant-loop-k l = l.items.items ≡ each_from (λ j. aux_desc (aux_at l.view l.i j)) 0 l.k
