use Rattle.glk_pcval.proofs.LawLemmas.{shortest_law}
use Rattle.glk_pcval.proofs.laws.numbers_are_shortest.Goals as goal

pub returns : goal.returns
returns c = shortest_law
