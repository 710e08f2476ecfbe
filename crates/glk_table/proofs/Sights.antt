-- What a seat is after it has read a probe place.
use Rattle.std.proofs.Common.{◌≡◌, ◌≢◌, ℕ, zero, suc, ◌+◌, ◌-◌, ◌*◌, ◌<◌, ◌≤◌, List, [], ◌∷◌, ◌++◌, length, refl, sym, ap, ◌∙◌, subst, ⊎_elim, arith}
use Rattle.std.proofs.lemmas.List.Elements.{Contains-append_cases}
use Rattle.std.specs.Prelude.{Contains}
use Rattle.atomic_table.specs.Table.{Me}
use Rattle.atomic_table.specs.declared.shared.Seat.{Seat}
use mathlib.Core.Logic.{dite}
use native.Mathlib.Decide.{dec_lt}
use Rattle.atomic_table.proofs.Lists.{one_turn}
use Rattle.glk_table.specs.Rule.{id_word, saw, key_in, probe, with_entered, Knowing, Knows}
use Rattle.glk_table.specs.Seats.{EntersAt, IsSeatOf, TableFacts, SeesMore, view_of}
use Rattle.glk_table.specs.declared.view.View.{View}
use Rattle.glk_table.specs.Keys.{key_of, hash_of}
use Rattle.glk_table.proofs.Members.{cons_cases, here, there}
use Rattle.glk_table.proofs.Pigeon.{pigeons}
use Rattle.glk_table.specs.Probing.{Passed}

sees_more : (p n : ℕ) (v : View) → SeesMore v (saw p n v)
sees_more p zero v = record { size_is = refl; keys_is = refl; entered_is = refl; ranks_is = refl; strong_is = refl; part_is = refl; seen = λ q w m. m }
sees_more p (suc n) v = record { size_is = refl; keys_is = refl; entered_is = refl; ranks_is = refl; strong_is = refl; part_is = refl; seen = λ q w m. there (p, suc n) v.seen (q, w) m }

saw_it : (p n : ℕ) (v : View) → n ≢ 0 → Contains (saw p n v).seen (p, n)
saw_it p zero v ne = absurd (ne refl)
saw_it p (suc n) v ne = here (p, suc n) v.seen

-- the seat after the step, which saw n at p
pub saw_seat : (t : TableFacts) (old new : Seat (Unit {0}) View) (p n : ℕ) → IsSeatOf t old → new.table_id ≡ old.table_id → new.me ≡ (saw p n (view_of old), old.me.1) → IsSeatOf t new × SeesMore (view_of old) (view_of new)
saw_seat t old new p n h same is =
    let P : Me (Unit {0}) View → Type 0 = λ m. SeesMore (view_of old) m.0 in
    let more : SeesMore (view_of old) (view_of new) = subst P (sym is) (sees_more p n (view_of old)) in
    let part : 0 < (view_of new).part = let e = more.part_is in let k = h.has_part in omega arith in
    let W : List (ℕ × ℕ) → Type 0 = λ es. (a q : ℕ) → Contains es (a, q) → q < t.size in
    (record { table_is = same ∙ h.table_is; size_is = more.size_is ∙ h.size_is; has_part = part; holds_none = ap (λ m. m.1) is ∙ h.holds_none; within = subst W (sym more.entered_is) h.within }, more)

pub more_trans : (u v w : View) → SeesMore u v → SeesMore v w → SeesMore u w
more_trans u v w a b = record {
  size_is = b.size_is ∙ a.size_is;
  keys_is = b.keys_is ∙ a.keys_is;
  entered_is = b.entered_is ∙ a.entered_is;
  ranks_is = b.ranks_is ∙ a.ranks_is;
  strong_is = b.strong_is ∙ a.strong_is;
  part_is = b.part_is ∙ a.part_is;
  seen = λ p n m. b.seen p n (a.seen p n m);
}

-- the word that was seen
pub saw_word : (old new : Seat (Unit {0}) View) (p n : ℕ) → n ≢ 0 → new.me ≡ (saw p n (view_of old), old.me.1) → Knows (view_of new) → (0 < n) × (n ≤ length (view_of old).keys) × Contains (view_of new).seen (p, n)
saw_word old new p n ne is knows =
    let P : Me (Unit {0}) View → Type 0 = λ m. SeesMore (view_of old) m.0 × Contains m.0.seen (p, n) in
    let h : SeesMore (view_of old) (view_of new) × Contains (view_of new).seen (p, n) = subst P (sym is) (sees_more p n (view_of old), saw_it p n (view_of old) ne) in
    let k = knows.seen p n h.1 in
    let Q : List (ℕ × ℕ) → Type 0 = λ ks. n ≤ length ks in
    (k.1, subst Q h.0.keys_is k.2, h.1)

pub passed_more : (size id j : ℕ) (v w : View) → SeesMore v w → Passed size v.keys v.seen id j → Passed size v.keys w.seen id j
passed_more size id j v w h p i lt = let m = p i lt in (m.0, h.seen _ m.0 m.1, m.2)

-- two steps one after the other
pub saw_twice : (t : TableFacts) (old mid new : Seat (Unit {0}) View) (p m n : ℕ) → IsSeatOf t old
    → mid.table_id ≡ old.table_id → mid.me ≡ (saw p m (view_of old), old.me.1) → new.table_id ≡ mid.table_id → new.me ≡ (saw p n (view_of mid), mid.me.1) → IsSeatOf t new × SeesMore (view_of old) (view_of new)
saw_twice t old mid new p m n h same is same' is' =
    let a = saw_seat t old mid p m h same is in
    let b = saw_seat t mid new p n a.0 same' is' in
    (b.0, more_trans (view_of old) (view_of mid) (view_of new) a.1 b.1)

-- the seat after its call was counted
pub entered_seat : (t : TableFacts) (old new : Seat (Unit {0}) View) (id i p : ℕ) → IsSeatOf t old → p < t.size → new.table_id ≡ old.table_id → i ≡ 3 * t.size + p
    → new.me ≡ (with_entered id (i - id_word (view_of old).size 0) (view_of old), old.me.1) → IsSeatOf t new × EntersAt (view_of old) id p (view_of new)
entered_seat t old new id i p h low same is e =
    let s = h.size_is in
    let place : i - id_word (view_of old).size 0 ≡ p = omega arith in
    let P : Me (Unit {0}) View → Type 0 = λ m. EntersAt (view_of old) id p m.0 in
    let Q : ℕ → Type 0 = λ k. EntersAt (view_of old) id p (with_entered id k (view_of old)) in
    let one : EntersAt (view_of old) id p (view_of new) = subst P (sym e) (subst Q (sym place) (record { size_is = refl; keys_is = refl; entered_is = refl; ranks_is = refl; strong_is = refl; part_is = refl })) in
    let part : 0 < (view_of new).part = let a = one.part_is in let b = h.has_part in omega arith in
    let W : List (ℕ × ℕ) → Type 0 = λ es. (a q : ℕ) → Contains es (a, q) → q < t.size in
    let within : W ((id, p) ∷ (view_of old).entered) = λ a q m.
    ⊎_elim (λ (x : (id, p) ≡ (a, q)). let B : ℕ → Type 0 = λ k. k < t.size in subst B (ap (λ y. y.1) x) low) (λ (x : Contains (view_of old).entered (a, q)). h.within a q x) (cons_cases (id, p) (view_of old).entered (a, q) m) in
    (record { table_is = same ∙ h.table_is; size_is = one.size_is ∙ h.size_is; has_part = part; holds_none = ap (λ m. m.1) e ∙ h.holds_none; within = subst W (sym one.entered_is) within }, one)

pub enters_later : (u v w : View) (id p : ℕ) → SeesMore u v → EntersAt v id p w → EntersAt u id p w
enters_later u v w id p a b = record {
  size_is = b.size_is ∙ a.size_is;
  keys_is = b.keys_is ∙ a.keys_is;
  entered_is = b.entered_is ∙ ap (λ l. (id, p) ∷ l) a.entered_is;
  ranks_is = b.ranks_is ∙ a.ranks_is;
  strong_is = b.strong_is ∙ a.strong_is;
  part_is = b.part_is ∙ a.part_is;
}

-- one more place of the path is filled with another key
pub passed_next : (size : ℕ) (ks seen : List (ℕ × ℕ)) (id j p w : ℕ) → Passed size ks seen id j → p ≡ probe size (hash_of ks id) j → Contains seen (p, w) → key_in ks w ≢ key_of ks id → Passed size ks seen id (j + 1)
passed_next size ks seen id j p w passed is m ne i lt =
    dite (dec_lt i j)
    (λ h. passed i h)
    (λ h.
    let same : i ≡ j = omega arith in
    let P : ℕ → Type 0 = λ k. (x : ℕ) × Contains seen (probe size (hash_of ks id) k, x) × (key_in ks x ≢ key_of ks id) in
    let Q : ℕ → Type 0 = λ q. Contains seen (q, w) in
    subst P (sym same) (w, subst Q is m, ne))

probe_apart : (size hash i j : ℕ) → i < size → j < size → probe size hash i ≡ probe size hash j → i ≡ j
probe_apart size hash i j hi hj e =
    dite (dec_lt j i)
    (λ lt. let same : hash + j ≡ hash + i = one_turn (hash + j) (hash + i) size (omega arith) (omega arith) (sym e) in omega arith)
    (λ ge. let same : hash + i ≡ hash + j = one_turn (hash + i) (hash + j) size (omega arith) (omega arith) e in omega arith)

-- not all places of a path are filled with other keys
pub not_full : (size : ℕ) (ks : List (ℕ × ℕ)) (v : View) (id : ℕ) → Knowing size ks v → Passed size ks v.seen id size → ⊥
not_full size ks v id k passed =
    let R : ℕ → ℕ → Type 0 = λ i x. (w : ℕ) × (w ≡ x + 1) × Contains v.seen (probe size (hash_of ks id) i, w) in
    pigeons R (length ks) size
    (λ i h. let m = passed i h in let s = k.seen _ m.0 m.1 in let a = s.1 in let b = s.2 in (m.0 - 1, omega arith, (m.0, omega arith, m.1)))
    k.room
    (λ i j x hi hj ri rj.
    let same : ri.0 ≡ rj.0 = ri.1 ∙ sym rj.1 in
    probe_apart size (hash_of ks id) i j hi hj (k.apart _ ri.0 _ rj.0 ri.2 rj.2 (ap (key_in ks) same)))

-- a seat of this view
pub seat_with : (t : TableFacts) (new : Seat (Unit {0}) View) (w : View) (held : List (ℕ × Unit {0})) → new.table_id ≡ t.id → new.me ≡ (w, held) → held ≡ [] → w.size ≡ t.size → 0 < w.part
    → ((a p : ℕ) → Contains w.entered (a, p) → p < t.size) → IsSeatOf t new
seat_with t new w held same is none size_is part within =
    let W : List (ℕ × ℕ) → Type 0 = λ es. (a q : ℕ) → Contains es (a, q) → q < t.size in
    let P : ℕ → Type 0 = λ n. 0 < n in
    record {
      table_is = same;
      size_is = ap (λ m. m.0.size) is ∙ size_is;
      has_part = subst P (sym (ap (λ m. m.0.part) is)) part;
      holds_none = ap (λ m. m.1) is ∙ none;
      within = subst W (sym (ap (λ m. m.0.entered) is)) within;
    }

pub within_both : (size : ℕ) (es fs : List (ℕ × ℕ)) → ((a p : ℕ) → Contains es (a, p) → p < size) → ((a p : ℕ) → Contains fs (a, p) → p < size) → (a p : ℕ) → Contains (es ++ fs) (a, p) → p < size
within_both size es fs h k a p m = ⊎_elim (λ (t : Contains es (a, p)). h a p t) (λ (t : Contains fs (a, p)). k a p t) (Contains-append_cases es fs (a, p) m)

-- the same seat, by another name of its table
pub seat_of : (m n : TableFacts) (s : Seat (Unit {0}) View) → m ≡ n → IsSeatOf n s → IsSeatOf m s
seat_of m n s e h = subst (λ (x : TableFacts). IsSeatOf x s) (sym e) h
