use Rattle.std.proofs.Common.{take}
use Rattle.glk_reloc.proofs.Patchable.{PatchableUpTo}
use Rattle.glk_reloc.proofs.tests.are_patchable.Given as goal

abbrev pub invariant-loop-field : goal.invariant-loop-field
invariant-loop-field l = PatchableUpTo l.len (take l.field-index l.fields) l.end
