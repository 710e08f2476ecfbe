use Rattle.std.proofs.Common.{◌≡◌, ◌<◌, ap, ◌∙◌, arith}
use Rattle.glk_table.specs.Rule.{with_strong}
use Rattle.glk_table.specs.Seats.{TableFacts, view_of}
use Rattle.glk_table.proofs.Steps.{strengthens}
use Rattle.glk_table.proofs.Sights.{seat_with, seat_of}
use Rattle.glk_table.proofs.table.KeyTable.offer_strong.Goals as goal

pub fetch_max-requires : goal.fetch_max-requires
fetch_max-requires c =
    let s = c.args.seat.now in
    let i = c.self.invariant in
    let words = i.words_are in
    let size : c.self.inside.size ≡ c.args.self.now.size = ap (λ (n : TableFacts). n.size) c.self.view_is in
    let below = c.requires.place in
    let place : c.args.at < c.self.inside.size = omega arith in
    let h = seat_of _ _ s c.self.view_is c.requires.seat in
    (h.table_is, omega arith, rw i.key_is (strengthens c.self.inside.size s.id s.me h.has_part c.self.inside.table.shared.table_id.slots _ c.args.at c.args.id c.strong_index-index.ensures h.size_is place c.ranges.id.fits))

pub returns-clause-seat : goal.returns-clause-seat
returns-clause-seat c =
    seat_with c.args.self.now c.fetch_max.new.seat (with_strong _ _ (view_of c.args.seat.now)) _ (c.fetch_max.ensures.0 ∙ c.requires.seat.table_is) c.fetch_max.ensures.2 c.requires.seat.holds_none c.requires.seat.size_is c.requires.seat.has_part c.requires.seat.within
