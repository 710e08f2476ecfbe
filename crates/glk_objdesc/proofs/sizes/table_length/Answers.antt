use Rattle.glk_objdesc.proofs.Clamped.{table_clamped}
use Rattle.glk_objdesc.proofs.sizes.table_length.Goals as goal

pub returns : goal.returns
returns c = rw (c.saturating_mul.ensures, c.saturating_add.ensures) (table_clamped c.definitions.result _ c.definitions.ensures)
