use Rattle.std.proofs.Common.{sym, ◌∙◌, subst, arith}
use Rattle.glk_table.specs.Elections.{Election, HasNone, IsGreatestId}
use Rattle.glk_table.specs.Seats.{view_of}
use Rattle.glk_table.proofs.Answering.{placed_in, item_at, flag_at, in_strong, in_has_strong, no_strong, strong_answer}
use Rattle.glk_table.proofs.elected.Elected.greatest_strong.Goals as goal

pub index-requires : goal.index-requires
index-requires c =
    let v = view_of c.self.inside.last.value in
    let a = c.self.inside.arrays in
    let p = c.args.place in
    let place = placed_in v _ p c.self.view_is c.requires in
    let inside = in_has_strong v a c.self.invariant p place in
    let number = c.number-at.ensures in
    omega arith

pub index-requires-then-index : goal.index-requires-then-index
index-requires-then-index c =
    let v = view_of c.self.inside.last.value in
    let a = c.self.inside.arrays in
    let p = c.args.place in
    let place = placed_in v _ p c.self.view_is c.requires in
    let inside = in_strong v a c.self.invariant p place in
    let number = c.number-at.ensures in
    omega arith

pub returns-then-index : goal.returns-then-index
returns-then-index c =
    let v = view_of c.self.inside.last.value in
    let a = c.self.inside.arrays in
    let p = c.args.place in
    let place = placed_in v _ p c.self.view_is c.requires in
    let flag = flag_at a.has_strong.items _ p _ c.index.ensures c.number-at.ensures (in_has_strong v a c.self.invariant p place) in
    let item = item_at a.strong.items _ p _ c.index-then-index.ensures c.number-at.ensures (in_strong v a c.self.invariant p place) in
    subst (λ (e : Election). IsGreatestId e.strong p c.index-then-index.result.now) c.self.view_is
    (subst (IsGreatestId v.strong p) (sym item) (strong_answer v a c.self.invariant p place (sym flag ∙ c.if-index.true)))

pub returns-else-index : goal.returns-else-index
returns-else-index c =
    let v = view_of c.self.inside.last.value in
    let a = c.self.inside.arrays in
    let p = c.args.place in
    let place = placed_in v _ p c.self.view_is c.requires in
    let flag = flag_at a.has_strong.items _ p _ c.index.ensures c.number-at.ensures (in_has_strong v a c.self.invariant p place) in
    subst (λ (e : Election). HasNone e.strong p) c.self.view_is (no_strong v a c.self.invariant p place (sym flag ∙ c.if-index.false))
