use Rattle.glk_merge.proofs.OfferLaws.{appends_none, appends_more}
use Rattle.glk_merge.proofs.offers.push_offers.Goals as goal

pub loop-k-init : goal.loop-k-init
loop-k-init c = appends_none c.args.rows.now c.args.n c.args.offers.now.items

pub loop-k-preserved : goal.loop-k-preserved
loop-k-preserved c =
    appends_more c.args.rows.now c.args.n c.loop-k.k c.args.offers.now.items c.loop-k.offers.items c.push.new.self.items c.entry_offer.result
    c.loop-k.invariant c.in_ok-push.ensures.items c.entry_offer.ensures
