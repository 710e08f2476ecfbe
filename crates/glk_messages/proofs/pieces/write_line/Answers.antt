use Rattle.glk_messages.proofs.PieceLemmas.{reported}
use Rattle.glk_messages.proofs.pieces.write_line.Goals as goal

pub returns : goal.returns
returns g c = reported _ _ _ c.try_line.result c.try_line.ensures
