use Rattle.glk_objdesc.proofs.Clamped.{relocs_clamped}
use Rattle.glk_objdesc.proofs.sizes.relocs_length.Goals as goal

pub returns : goal.returns
returns c = rw c.saturating_mul.ensures (relocs_clamped c.whole.result _ c.whole.ensures)
