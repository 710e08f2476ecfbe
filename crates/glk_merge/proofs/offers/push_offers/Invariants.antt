use Rattle.glk_merge.specs.Offers.{AppendsOffers}
use Rattle.glk_merge.proofs.offers.push_offers.Given as goal

abbrev pub invariant-loop-k : goal.invariant-loop-k
invariant-loop-k l = AppendsOffers l.rows l.n l.k l.initial.offers.items l.offers.items
