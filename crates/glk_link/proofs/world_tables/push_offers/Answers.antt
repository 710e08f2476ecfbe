use Rattle.std.proofs.Common.{◌≡◌, ℕ, List, [], get_or, ap, ◌∙◌, arith}
use Rattle.glk_obj.specs.Blocks.{count, pkg_idx}
use Rattle.glk_obj.specs.Records.{pkg_at}
use Rattle.glk_arena.specs.World.{objects_of, paths_of}
use Rattle.glk_arena.specs.Packages.{find_package}
use Rattle.glk_link.specs.Targets.{offer_of, package_named}
use Rattle.glk_link.proofs.OfferTables.{offer_start, offer_more, offers_all}
use Rattle.glk_link.proofs.world_tables.push_offers.Goals as goal

pub loop-k-init : goal.loop-k-init
loop-k-init c = offer_start (λ j. offer_of c.args.loaded.now (package_named c.args.loaded.now (get_or (objects_of c.args.loaded.now) c.args.n []) j)) c.args.offers.now.items

pub loop-k-preserved : goal.loop-k-preserved
loop-k-preserved c =
    let object : List ℕ = get_or (objects_of c.args.loaded.now) c.args.n [] in
    let name : c.pkg.result.now ≡ pkg_at object c.loop-k.k = c.pkg.ensures ∙ ap (λ o. pkg_at o c.loop-k.k) c.object-object.ensures.value in
    offer_more (λ j. offer_of c.args.loaded.now (package_named c.args.loaded.now object j)) c.loop-k.k c.args.offers.now.items c.loop-k.offers.items c.push.new.self.items c.offer_named.result
    c.loop-k.invariant c.in_ok-push.ensures.items
    (c.offer_named.ensures ∙ ap (λ n. offer_of c.args.loaded.now (find_package (paths_of c.args.loaded.now) n)) name)

pub returns : goal.returns
returns c =
    let object : List ℕ = get_or (objects_of c.args.loaded.now) c.args.n [] in
    let many : c.count-k-end.result ≡ count object pkg_idx = c.count-k-end.ensures.value ∙ ap (λ o. count o pkg_idx) c.object-object.ensures.value in
    offers_all c.args.loaded.now object c.loop-k.k c.args.offers.now.items c.loop-k.offers.items c.loop-k.invariant (omega (arith, many))
