use Rattle.std.proofs.Common.{◌<◌}
use Rattle.glk_obj.specs.Records.{definitions}
use Rattle.glk_obj.specs.Rules.{RelocFault}
use Rattle.glk_obj.proofs.LeastOffsets.{NoneBelow}
use Rattle.glk_obj.proofs.definitions.stray_reloc.Given as goal

abbrev pub invariant-loop-i : goal.invariant-loop-i
invariant-loop-i l = NoneBelow (λ i. i < definitions l.bytes) (RelocFault l.bytes) l.i
