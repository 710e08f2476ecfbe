use Rattle.std.proofs.Common.{◌≡◌, ◌<◌, ◌≤◌, ◌+◌, get_or, sym, ◌∙◌, arith}
use Rattle.std.proofs.lemmas.List.{get_or_default}
use Rattle.glk_obj.specs.Blocks.{count, pkg_idx}
use Rattle.glk_obj.specs.Views.{ref_view}
use Rattle.glk_keys.specs.Rows.{object_at}
use Rattle.glk_merge.proofs.OfferLaws.{referent_offered, referent_past}
use Rattle.glk_merge.specs.Offers.{no_offer}
use Rattle.glk_merge.proofs.offers.referent.Goals as goal

pub returns-then-r-end-clause-row : goal.returns-then-r-end-clause-row
returns-then-r-end-clause-row c =
    let p = c.args.rows.now in
    let n = c.args.o.0 in
    let starts = c.args.offers.now.starts.items in
    let list = c.args.offers.now.list.items in
    let a = c.requires.offers.each n c.requires.object in
    let begun = c.requires.offers.begun in
    let s = c.index-start.result.now in
    let e = c.index-end.result.now in
    let start : s ≡ get_or starts n 0 = c.index-start.ensures ∙ get_or_default starts n s 0 (let h = c.requires.object in omega arith) in
    let end : e ≡ get_or starts (n + 1) 0 = c.index-end.ensures ∙ get_or_default starts (n + 1) e 0 (let h = c.requires.object in omega arith) in
    let ends = a.ends in
    let inside = a.inside in
    let entry : c.args.r.pkg < count (object_at p n) pkg_idx = let h = c.if-r-end.true in omega arith in
    let x = c.index.result.now in
    let is = c.index.ensures ∙ get_or_default list (s + c.args.r.pkg) x no_offer (omega arith) in
    c.referent-then-r-end.ensures.row ∙ referent_offered p starts list n (ref_view c.args.r) a (sym c.is_special.ensures ∙ c.if-is_special.false) s x start entry is

pub returns-else-r-end-clause-row : goal.returns-else-r-end-clause-row
returns-else-r-end-clause-row c =
    let p = c.args.rows.now in
    let n = c.args.o.0 in
    let starts = c.args.offers.now.starts.items in
    let list = c.args.offers.now.list.items in
    let a = c.requires.offers.each n c.requires.object in
    let begun = c.requires.offers.begun in
    let s = c.index-start.result.now in
    let e = c.index-end.result.now in
    let start : s ≡ get_or starts n 0 = c.index-start.ensures ∙ get_or_default starts n s 0 (let h = c.requires.object in omega arith) in
    let end : e ≡ get_or starts (n + 1) 0 = c.index-end.ensures ∙ get_or_default starts (n + 1) e 0 (let h = c.requires.object in omega arith) in
    let ends = a.ends in
    let past : count (object_at p n) pkg_idx ≤ c.args.r.pkg = let h = c.if-r-end.false in omega arith in
    referent_past p starts list n (ref_view c.args.r) a (sym c.is_special.ensures ∙ c.if-is_special.false) past
