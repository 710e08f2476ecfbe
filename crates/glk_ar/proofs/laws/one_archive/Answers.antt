use Rattle.glk_ar.proofs.Once.{one_archive}
use Rattle.glk_ar.proofs.laws.one_archive.Goals as goal

pub returns : goal.returns
returns c = one_archive
