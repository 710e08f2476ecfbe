use Rattle.std.proofs.Common.{◌≡◌, ◌+◌}
use Rattle.glk_objdesc.specs.Described.{each_from}
use Rattle.glk_objdesc.specs.Described.{symbol_desc, first_ref}
use Rattle.glk_obj.specs.Records.{symbol_at}
use Rattle.glk_objdesc.proofs.read.references.Given as goal

abbrev pub invariant-loop-k : goal.invariant-loop-k
invariant-loop-k l = l.items.items ≡ each_from (λ j. symbol_desc (symbol_at l.view (first_ref l.view + j))) 0 l.k
