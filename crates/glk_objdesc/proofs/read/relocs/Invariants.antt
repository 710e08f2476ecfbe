use Rattle.std.proofs.Common.{◌≡◌}
use Rattle.glk_objdesc.specs.Described.{each_from}
use Rattle.glk_obj.specs.Records.{reloc_at}
use Rattle.glk_objdesc.specs.Described.{reloc_desc}
use Rattle.glk_objdesc.proofs.read.relocs.Given as goal

abbrev pub invariant-loop-k : goal.invariant-loop-k
invariant-loop-k l = l.items.items ≡ each_from (λ j. reloc_desc (reloc_at l.view l.i j)) 0 l.k
