use Rattle.glk_frames.proofs.SearchLemmas.{index_near}
use Rattle.glk_frames.proofs.laws.parts_fit.Goals as goal

pub returns : goal.returns
returns c = λ start n a b apart near. index_near start n a b apart near
