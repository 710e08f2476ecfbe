use Rattle.std.proofs.Common.{◌≡◌, ◌+◌}
use Rattle.glk_objdesc.specs.Described.{each_from}
use Rattle.glk_objdesc.specs.Described.{def_desc}
use Rattle.glk_obj.specs.Records.{hash_at}
use Rattle.glk_objdesc.proofs.read.hashed.Given as goal

abbrev pub invariant-loop-k : goal.invariant-loop-k
invariant-loop-k l = l.items.items ≡ each_from (λ j. def_desc l.view (l.first + j) (hash_at l.view j)) 0 l.k
