use Rattle.std.proofs.Common.{◌≡◌, ℕ, ◌+◌, ◌<◌, ◌≤◌, List, length, sym, ap, ◌∙◌, subst, arith}
use Rattle.std.specs.Prelude.{Contains}
use Rattle.glk_table.specs.Keys.{hash_of}
use Rattle.glk_table.specs.Rule.{probe, saw, word_after}
use Rattle.glk_table.specs.Seats.{TableFacts, view_of}
use Rattle.glk_table.proofs.Filling.{at_below}
use Rattle.glk_table.proofs.Steps.{looks, fills, word_after_some}
use Rattle.glk_table.specs.Probing.{Passed}
use Rattle.glk_table.proofs.Sights.{saw_seat, saw_twice, saw_word, seat_of, passed_more}
use Rattle.glk_table.proofs.table.KeyTable.probe.Goals as goal

pub load-word-requires : goal.load-word-requires
load-word-requires c =
    let s = c.args.seat.now in
    let t = c.args.self.now in
    let i = c.self.invariant in
    let size : c.self.inside.size ≡ t.size = ap (λ (n : TableFacts). n.size) c.self.view_is in
    let below : c.args.at < t.size = at_below t.size _ c.args.step c.args.at c.requires.place.0 c.requires.place.1 in
    let place : c.args.at < c.self.inside.size = omega arith in
    let words = i.words_are in
    let h = seat_of _ _ s c.self.view_is c.requires.seat in
    (h.table_is, omega arith, rw i.key_is (looks c.self.inside.size s.id s.me h.has_part c.self.inside.table.shared.table_id.slots c.args.at place))

pub returns-then-word-ne0-clause-seat : goal.returns-then-word-ne0-clause-seat
returns-then-word-ne0-clause-seat c =
    saw_seat c.args.self.now c.args.seat.now c.load-word.new.seat c.args.at c.load-word.result c.requires.seat c.load-word.ensures.0 c.load-word.ensures.2.0

pub returns-then-word-ne0-clause-word : goal.returns-then-word-ne0-clause-word
returns-then-word-ne0-clause-word c = saw_word c.args.seat.now c.load-word.new.seat c.args.at c.load-word.result c.if-word-ne0.true c.load-word.ensures.2.0 c.load-word.ensures.2.1

pub compare_exchange-found-requires : goal.compare_exchange-found-requires
compare_exchange-found-requires c =
    let old = c.args.seat.now in
    let s = c.load-word.new.seat in
    let t = c.args.self.now in
    let i = c.self.invariant in
    let n = c.self.inside.size in
    let same : n ≡ t.size = ap (λ (x : TableFacts). x.size) c.self.view_is in
    let h = saw_seat t old s c.args.at c.load-word.result c.requires.seat c.load-word.ensures.0 c.load-word.ensures.2.0 in
    let mine = seat_of _ _ s c.self.view_is h.0 in
    let below : c.args.at < t.size = at_below t.size _ c.args.step c.args.at c.requires.place.0 c.requires.place.1 in
    let place : c.args.at < n = omega arith in
    let words = i.words_are in
    let P : List (ℕ × ℕ) → ℕ → Type 0 = λ ks m. (c.args.id < length ks) × (c.args.step < m) × (c.args.at ≡ probe m (hash_of ks c.args.id) c.args.step) × Passed m ks (view_of s).seen c.args.id c.args.step in
    let p : P (view_of s).keys n = subst (λ m. P (view_of s).keys m) (sym same) (subst (λ ks. P ks t.size) (sym h.1.keys_is) (c.requires.id, c.requires.place.0, c.requires.place.1, passed_more t.size c.args.id c.args.step (view_of old) (view_of s) h.1 c.requires.earlier)) in
    (mine.table_is, omega arith, rw i.key_is (fills n s.id s.me mine.has_part c.self.inside.table.shared.table_id.slots c.args.at c.args.id c.args.step place p.0 p.1 p.2 p.3))

pub returns-then-found-eq0-clause-seat : goal.returns-then-found-eq0-clause-seat
returns-then-found-eq0-clause-seat c =
    saw_twice c.args.self.now c.args.seat.now c.load-word.new.seat c.compare_exchange-found.new.seat c.args.at c.load-word.result (word_after c.compare_exchange-found.result (c.args.id + 1))
    c.requires.seat c.load-word.ensures.0 c.load-word.ensures.2.0 c.compare_exchange-found.ensures.0 c.compare_exchange-found.ensures.2.0

pub returns-else-found-eq0-clause-seat : goal.returns-else-found-eq0-clause-seat
returns-else-found-eq0-clause-seat c =
    saw_twice c.args.self.now c.args.seat.now c.load-word.new.seat c.compare_exchange-found.new.seat c.args.at c.load-word.result (word_after c.compare_exchange-found.result (c.args.id + 1))
    c.requires.seat c.load-word.ensures.0 c.load-word.ensures.2.0 c.compare_exchange-found.ensures.0 c.compare_exchange-found.ensures.2.0

pub returns-else-found-eq0-clause-word : goal.returns-else-found-eq0-clause-word
returns-else-found-eq0-clause-word c =
    let s = c.load-word.new.seat in
    let n = c.compare_exchange-found.result in
    let more = saw_seat c.args.self.now c.args.seat.now s c.args.at c.load-word.result c.requires.seat c.load-word.ensures.0 c.load-word.ensures.2.0 in
    let is : c.compare_exchange-found.new.seat.me ≡ (saw c.args.at n (view_of s), s.me.1) =
    c.compare_exchange-found.ensures.2.0 ∙ ap (λ (k : ℕ). (saw c.args.at k (view_of s), s.me.1)) (word_after_some n (c.args.id + 1) c.if-found-eq0.false) in
    let P : List (ℕ × ℕ) → Type 0 = λ ks. (0 < n) × (n ≤ length ks) × Contains (view_of c.compare_exchange-found.new.seat).seen (c.args.at, n) in
    subst P more.1.keys_is (saw_word s c.compare_exchange-found.new.seat c.args.at n c.if-found-eq0.false is c.compare_exchange-found.ensures.2.1)
