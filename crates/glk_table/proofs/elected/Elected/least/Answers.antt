use Rattle.std.proofs.Common.{sym, ◌∙◌, subst, arith}
use Rattle.glk_table.specs.Elections.{Election, HasNone, IsLeastRank}
use Rattle.glk_table.specs.Seats.{view_of}
use Rattle.glk_table.proofs.Answering.{placed_in, item_at, in_ranks, no_least, least_answer}
use Rattle.glk_table.proofs.elected.Elected.least.Goals as goal

pub index-rank-requires : goal.index-rank-requires
index-rank-requires c =
    let v = view_of c.self.inside.last.value in
    let a = c.self.inside.arrays in
    let p = c.args.place in
    let place = placed_in v _ p c.self.view_is c.requires in
    let inside = in_ranks v a c.self.invariant p place in
    let number = c.number.ensures in
    omega arith

pub returns-then-rank : goal.returns-then-rank
returns-then-rank c =
    let v = view_of c.self.inside.last.value in
    let a = c.self.inside.arrays in
    let p = c.args.place in
    let place = placed_in v _ p c.self.view_is c.requires in
    let item = item_at a.ranks.items _ p _ c.index-rank.ensures c.number.ensures (in_ranks v a c.self.invariant p place) in
    subst (λ (e : Election). HasNone e.ranks p) c.self.view_is (no_least v a c.self.invariant p place (sym item ∙ c.if-rank.true))

pub returns-else-rank : goal.returns-else-rank
returns-else-rank c =
    let v = view_of c.self.inside.last.value in
    let a = c.self.inside.arrays in
    let p = c.args.place in
    let place = placed_in v _ p c.self.view_is c.requires in
    let item = item_at a.ranks.items _ p _ c.index-rank.ensures c.number.ensures (in_ranks v a c.self.invariant p place) in
    subst (λ (e : Election). IsLeastRank e.ranks p c.index-rank.result.now) c.self.view_is
    (subst (IsLeastRank v.ranks p) (sym item) (least_answer v a c.self.invariant p place (λ e. c.if-rank.false (item ∙ e))))
