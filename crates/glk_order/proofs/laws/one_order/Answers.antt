use Rattle.glk_order.proofs.OneOrder.{one_order}
use Rattle.glk_order.proofs.laws.one_order.Goals as goal

pub returns : goal.returns
returns c = one_order
