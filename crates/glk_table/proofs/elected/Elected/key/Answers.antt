use Rattle.std.proofs.Common.{sym, subst, arith}
use Rattle.glk_table.specs.Elections.{Election, election_of, IsLeastId, IsLeastOfKey}
use Rattle.glk_table.specs.Seats.{view_of}
use Rattle.glk_table.proofs.Answering.{placed_in, item_at, in_keys, key_answer, key_answer_of_all}
use Rattle.glk_table.proofs.elected.Elected.key.Goals as goal

pub index-requires : goal.index-requires
index-requires c =
    let v = view_of c.self.inside.last.value in
    let a = c.self.inside.arrays in
    let p = c.args.place in
    let place = placed_in v _ p c.self.view_is c.requires in
    let inside = in_keys v a c.self.invariant p place in
    let number = c.number.ensures in
    omega arith

pub returns-clause-least : goal.returns-clause-least
returns-clause-least c =
    let v = view_of c.self.inside.last.value in
    let a = c.self.inside.arrays in
    let p = c.args.place in
    let place = placed_in v _ p c.self.view_is c.requires in
    let item = item_at a.keys.items _ p _ c.index.ensures c.number.ensures (in_keys v a c.self.invariant p place) in
    subst (λ (e : Election). IsLeastId e.entered p c.index.result.now) c.self.view_is (subst (IsLeastId v.entered p) (sym item) (key_answer v a c.self.invariant p place))

pub returns-clause-of_key : goal.returns-clause-of_key
returns-clause-of_key c =
    let v = view_of c.self.inside.last.value in
    let a = c.self.inside.arrays in
    let p = c.args.place in
    let place = placed_in v _ p c.self.view_is c.requires in
    let item = item_at a.keys.items _ p _ c.index.ensures c.number.ensures (in_keys v a c.self.invariant p place) in
    subst (λ (e : Election). IsLeastOfKey e p c.index.result.now) c.self.view_is (subst (IsLeastOfKey (election_of v) p) (sym item) (key_answer_of_all v a c.self.invariant p place))
