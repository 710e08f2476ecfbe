use Rattle.glk_layout.proofs.InOrder.{sections_in_order}
use Rattle.glk_layout.proofs.laws.sections_in_order.Goals as goal

pub returns : goal.returns
returns c = sections_in_order
