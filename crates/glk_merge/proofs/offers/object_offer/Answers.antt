use Rattle.std.proofs.Common.{◌≡◌, ap, ◌∙◌}
use Rattle.glk_obj.specs.Blocks.{count, symdef}
use Rattle.glk_keys.specs.Rows.{object_at}
use Rattle.glk_merge.proofs.OfferLaws.{offers_all, offers_within, offers_none, is_not_nothing}
use Rattle.glk_merge.proofs.offers.object_offer.Goals as goal

pub returns-in-Row-clause-rows : goal.returns-in-Row-clause-rows
returns-in-Row-clause-rows c = λ index.
    let p = c.args.rows.now in
    let o = c.args.o in
    let many : c.count-count.result ≡ count (object_at p o) symdef = c.count-count.ensures.value ∙ ap (λ b. count b symdef) c.object.ensures.value in
    offers_all p o c.in-Row.id c.count-count.result index many c.in-Row.ensures.row

pub returns-in-Row-clause-within : goal.returns-in-Row-clause-within
returns-in-Row-clause-within c =
    let p = c.args.rows.now in
    let o = c.args.o in
    let many : c.count-count.result ≡ count (object_at p o) symdef = c.count-count.ensures.value ∙ ap (λ b. count b symdef) c.object.ensures.value in
    offers_within p o c.in-Row.id c.count-count.result c.requires many c.in-Row.ensures.row

pub returns-in-Nothing-clause-rows : goal.returns-in-Nothing-clause-rows
returns-in-Nothing-clause-rows c = absurd (is_not_nothing c.args.rows.now c.args.o c.in-Nothing.ensures.row)

pub returns-in-Missing-clause-rows : goal.returns-in-Missing-clause-rows
returns-in-Missing-clause-rows c = λ index. offers_none c.args.rows.now c.args.o index c.in-Missing.ensures.row
