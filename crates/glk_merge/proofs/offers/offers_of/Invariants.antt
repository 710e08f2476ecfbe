use Rattle.glk_merge.specs.Offers.{AreOffersUpTo}
use Rattle.glk_merge.proofs.offers.offers_of.Given as goal

abbrev pub invariant-loop-n : goal.invariant-loop-n
invariant-loop-n l = AreOffersUpTo l.rows l.starts.items l.list.items l.n
