use Rattle.glk_ar.proofs.Once.{one_part}
use Rattle.glk_ar.proofs.laws.one_part.Goals as goal

pub returns : goal.returns
returns c = one_part
