use Rattle.glk_pcln.proofs.Told.{told}
use Rattle.glk_pcln.proofs.laws.pieces_told.Goals as goal

pub returns : goal.returns
returns c = λ t a small short. told t a small short
