use Rattle.glk_words.proofs.Spelled.{agree}
use Rattle.glk_words.proofs.laws.spellings_agree.Goals as goal

pub returns : goal.returns
returns c = agree
