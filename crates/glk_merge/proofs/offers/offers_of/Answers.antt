use Rattle.std.proofs.Common.{◌≡◌, length, arith}
use Rattle.glk_merge.proofs.OfferLaws.{offers_more}
use Rattle.glk_merge.proofs.offers.offers_of.Goals as goal

pub loop-n-preserved : goal.loop-n-preserved
loop-n-preserved c =
    let len : c.len.result ≡ length c.push_offers.new.offers.items = omega (arith, c.len.ensures, c.push_offers.new.offers.ok.0) in
    offers_more c.args.rows.now c.loop-n.starts.items c.push-in-loop-n.new.self.items c.loop-n.list.items c.push_offers.new.offers.items c.loop-n.n c.len.result
    c.loop-n.invariant c.in_ok-push_offers.ensures len c.in_ok-push-2.ensures.items
