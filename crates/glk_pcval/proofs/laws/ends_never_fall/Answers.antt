use Rattle.glk_pcval.proofs.LawLemmas.{ends_law}
use Rattle.glk_pcval.proofs.laws.ends_never_fall.Goals as goal

pub returns : goal.returns
returns c = ends_law
