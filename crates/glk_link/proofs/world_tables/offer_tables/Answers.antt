use Rattle.std.proofs.Common.{◌≡◌, length, arith}
use Rattle.glk_link.proofs.OfferTables.{offers_begin, offers_more, offers_whole}
use Rattle.glk_link.proofs.world_tables.offer_tables.Goals as goal

pub loop-n-init : goal.loop-n-init
loop-n-init c = offers_begin c.args.loaded.now _ _ c.in_ok-starts.ensures.items c.new-offers.ensures.items

pub loop-n-preserved : goal.loop-n-preserved
loop-n-preserved c =
    let len : c.len.result ≡ length c.loop-n.offers.items = omega (arith, c.len.ensures, c.loop-n.offers.ok.0) in
    offers_more c.args.loaded.now c.loop-n.starts.items c.push.new.self.items c.loop-n.offers.items c.push_offers.new.offers.items c.loop-n.n c.len.result
    c.loop-n.invariant (omega (arith, c.objects-count.ensures)) len c.in_ok-push.ensures.items c.in_ok-push_offers.ensures

pub returns : goal.returns
returns c = offers_whole c.args.loaded.now _ _ c.loop-n.n c.loop-n.invariant (omega (arith, c.objects-count.ensures))
