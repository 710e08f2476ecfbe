use Rattle.glk_link.proofs.OfferTables.{AreOffersUpTo}
use Rattle.glk_link.proofs.world_tables.offer_tables.Given as goal

abbrev pub invariant-loop-n : goal.invariant-loop-n
invariant-loop-n l = AreOffersUpTo l.loaded l.starts.items l.offers.items l.n
