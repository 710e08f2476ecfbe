use Rattle.glk_layout.proofs.InOrder.{text_ends}
use Rattle.glk_layout.proofs.laws.text_ends.Goals as goal

pub returns : goal.returns
returns c = text_ends
