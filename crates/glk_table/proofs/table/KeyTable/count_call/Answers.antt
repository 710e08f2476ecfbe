use Rattle.std.proofs.Common.{◌≡◌, ◌<◌, ap, arith}
use Rattle.glk_table.specs.Seats.{TableFacts}
use Rattle.glk_table.proofs.Steps.{enters}
use Rattle.glk_table.proofs.Sights.{entered_seat, seat_of}
use Rattle.glk_table.proofs.table.KeyTable.count_call.Goals as goal

pub fetch_min-requires : goal.fetch_min-requires
fetch_min-requires c =
    let s = c.args.seat.now in
    let i = c.self.invariant in
    let words = i.words_are in
    let size : c.self.inside.size ≡ c.args.self.now.size = ap (λ (n : TableFacts). n.size) c.self.view_is in
    let below = c.requires.place.0 in
    let place : c.args.at < c.self.inside.size = omega arith in
    let h = seat_of _ _ s c.self.view_is c.requires.seat in
    (h.table_is, omega arith, rw i.key_is (enters c.self.inside.size s.id s.me h.has_part c.self.inside.table.shared.table_id.slots _ c.args.at c.args.id c.args.word c.id_index-index.ensures h.size_is place c.requires.id c.requires.place.1 c.requires.place.2))

pub returns-clause-seat : goal.returns-clause-seat
returns-clause-seat c =
    let size : c.self.inside.size ≡ c.args.self.now.size = ap (λ (n : TableFacts). n.size) c.self.view_is in
    (entered_seat c.args.self.now c.args.seat.now c.fetch_min.new.seat c.args.id c.id_index-index.result c.args.at c.requires.seat c.requires.place.0 c.fetch_min.ensures.0 (let i = c.id_index-index.ensures in omega arith) c.fetch_min.ensures.2.0).0

pub returns-clause-entered : goal.returns-clause-entered
returns-clause-entered c =
    let size : c.self.inside.size ≡ c.args.self.now.size = ap (λ (n : TableFacts). n.size) c.self.view_is in
    (entered_seat c.args.self.now c.args.seat.now c.fetch_min.new.seat c.args.id c.id_index-index.result c.args.at c.requires.seat c.requires.place.0 c.fetch_min.ensures.0 (let i = c.id_index-index.ensures in omega arith) c.fetch_min.ensures.2.0).1
