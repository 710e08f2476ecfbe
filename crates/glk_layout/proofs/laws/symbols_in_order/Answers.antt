use Rattle.glk_layout.proofs.InOrder.{symbols_in_order}
use Rattle.glk_layout.proofs.laws.symbols_in_order.Goals as goal

pub returns : goal.returns
returns c = symbols_in_order
