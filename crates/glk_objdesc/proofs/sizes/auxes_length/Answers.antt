use Rattle.glk_objdesc.proofs.Clamped.{auxes_clamped}
use Rattle.glk_objdesc.proofs.sizes.auxes_length.Goals as goal

pub returns : goal.returns
returns c = rw c.saturating_mul.ensures (auxes_clamped c.whole.result _ c.whole.ensures)
