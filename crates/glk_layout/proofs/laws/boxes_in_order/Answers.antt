use Rattle.glk_layout.proofs.InOrder.{boxes_in_order}
use Rattle.glk_layout.proofs.laws.boxes_in_order.Goals as goal

pub returns : goal.returns
returns c = boxes_in_order
