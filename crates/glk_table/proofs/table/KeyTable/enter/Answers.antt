use Rattle.std.proofs.Common.{◌≡◌, ◌≢◌, ℕ, Bool, true, false, true≢false, List, length, sym, ap, ◌∙◌, subst, arith}
use Rattle.std.specs.Prelude.{IsTrue}
use Rattle.glk_table.specs.Keys.{key_of, hash_of}
use Rattle.glk_table.specs.Rule.{key_in, Knowing}
use Rattle.glk_table.specs.Seats.{TableFacts, view_of}
use Rattle.glk_table.specs.Probing.{Passed}
use Rattle.glk_table.proofs.Powers.{masked_below, place_of}
use Rattle.glk_table.proofs.Sights.{more_trans, passed_next, not_full}
use Rattle.glk_table.proofs.table.KeyTable.enter.Goals as goal

differ : (b : Bool) → b ≡ false → IsTrue b → ⊥
differ true e h = true≢false e
differ false e h = absurd (grind arith)

pub overflow_add-at : goal.overflow_add-at
overflow_add-at g c =
    let a = c.self.invariant.some in
    let b = c.self.invariant.small in
    let l = c.loop-step-test.true in
    let start = masked_below c.self.inside.size c.hash.result c.self.invariant.power in
    omega arith

pub probe-word-requires-clause-place : goal.probe-word-requires-clause-place
probe-word-requires-clause-place g c =
    let same : c.self.inside.size ≡ c.args.self.now.size = ap (λ (x : TableFacts). x.size) c.self.view_is in
    let keys : g.K.Keys.list c.args.keys.now ≡ (view_of c.loop-step.seat).keys = c.requires.keys ∙ sym c.loop-step.invariant.more.keys_is in
    let hashes : c.hash.result ≡ hash_of (view_of c.loop-step.seat).keys c.args.id = c.hash.ensures ∙ ap (λ ks. hash_of ks c.args.id) keys in
    let lt = c.loop-step-test.true in
    (omega arith, place_of c.self.inside.size c.args.self.now.size c.hash.result (hash_of (view_of c.loop-step.seat).keys c.args.id) c.loop-step.step c.self.invariant.power same hashes)

pub probe-word-requires-clause-earlier : goal.probe-word-requires-clause-earlier
probe-word-requires-clause-earlier g c =
    let P : List (ℕ × ℕ) → Type 0 = λ ks. Passed c.args.self.now.size ks (view_of c.loop-step.seat).seen c.args.id c.loop-step.step in
    subst P (sym c.loop-step.invariant.more.keys_is) c.loop-step.invariant.passed

pub overflow_cast-word : goal.overflow_cast-word
overflow_cast-word g c =
    let same : c.self.inside.size ≡ c.args.self.now.size = ap (λ (x : TableFacts). x.size) c.self.view_is in
    let room = c.probe-word.ensures.knows.room in
    let small = c.self.invariant.small in
    let size = c.probe-word.ensures.seat.0.size_is in
    let word = c.probe-word.ensures.word.1 in
    let keys : length (view_of c.probe-word.new.seat).keys ≡ length (view_of c.loop-step.seat).keys = ap length c.probe-word.ensures.seat.1.keys_is in
    omega arith

pub loop-step-preserved : goal.loop-step-preserved
loop-step-preserved g c =
    let size = c.args.self.now.size in
    let inv = c.loop-step.invariant in
    let old = view_of c.args.seat.now in
    let now = view_of c.probe-word.new.seat in
    let more = more_trans old (view_of c.loop-step.seat) now inv.more c.probe-word.ensures.seat.1 in
    let keys : g.K.Keys.list c.args.keys.now ≡ old.keys = c.requires.keys in
    let hashes : c.hash.result ≡ hash_of old.keys c.args.id = c.hash.ensures ∙ ap (λ ks. hash_of ks c.args.id) keys in
    let same : c.self.inside.size ≡ size = ap (λ (x : TableFacts). x.size) c.self.view_is in
    let place = place_of c.self.inside.size size c.hash.result (hash_of old.keys c.args.id) c.loop-step.step c.self.invariant.power same hashes in
    let word = c.probe-word.result in
    let apart : key_in old.keys word ≢ key_of old.keys c.args.id = λ e.
    let P : List (ℕ × ℕ) → Type 0 = λ ks. key_in ks word ≡ key_of ks c.args.id in
    let same : key_in (g.K.Keys.list c.args.keys.now) word ≡ key_of (g.K.Keys.list c.args.keys.now) c.args.id = subst P (sym keys) e in
    differ c.same.result c.if-same.false (c.same.ensures.1 same) in
    record {
      is_seat = c.probe-word.ensures.seat.0;
      more = more;
      passed = passed_next size old.keys now.seen c.args.id c.loop-step.step _ word (λ i h. let m = inv.passed i h in (m.0, c.probe-word.ensures.seat.1.seen _ m.0 m.1, m.2)) place c.probe-word.ensures.word.2 apart;
      knows = λ _. c.probe-word.ensures.knows;
    }

pub unreachable-requires : goal.unreachable-requires
unreachable-requires g c =
    let same : c.self.inside.size ≡ c.args.self.now.size = ap (λ (x : TableFacts). x.size) c.self.view_is in
    let size = c.args.self.now.size in
    let inv = c.loop-step.invariant in
    let some = c.self.invariant.some in
    let stop = c.loop-step-test.false in
    let most = c.loop-step.auto.step-end in
    let all : c.loop-step.step ≡ size = omega arith in
    let now = view_of c.loop-step.seat in
    let P : List (ℕ × ℕ) → ℕ → Type 0 = λ ks n. Knowing n ks now in
    let knows : Knowing size (view_of c.args.seat.now).keys now = subst (λ n. P (view_of c.args.seat.now).keys n) inv.is_seat.size_is (subst (λ ks. P ks now.size) inv.more.keys_is (inv.knows (omega arith))) in
    let Q : ℕ → Type 0 = λ n. Passed size (view_of c.args.seat.now).keys now.seen c.args.id n in
    not_full size (view_of c.args.seat.now).keys now c.args.id knows (subst Q all inv.passed)
