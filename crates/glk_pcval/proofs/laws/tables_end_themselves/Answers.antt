use Rattle.glk_pcval.proofs.LawLemmas.{alone_law}
use Rattle.glk_pcval.proofs.laws.tables_end_themselves.Goals as goal

pub returns : goal.returns
returns c = alone_law
