-- Each step keeps the rule.
use Rattle.std.proofs.Common.{◌≡◌, ◌≢◌, ℕ, zero, suc, ◌+◌, ◌-◌, ◌*◌, ◌^◌, ◌<◌, ◌≤◌, min, max, List, length, set, refl, sym, ap, ◌∙◌, subst, ⊎_elim, arith, get_or-set_other, get_or-set_same, length-set}
use Rattle.std.proofs.lemmas.List.{set-get_or}
use Rattle.std.specs.Prelude.{slice_index, Contains, ◌==◌}
use prog.Atomic.{either}
use mathlib.Core.Option.{some, none}
use lib.ListN.{get_elem?}
use Rattle.atomic_table.specs.Table.{Me, step, keeps, Allows}
use Rattle.atomic_table.proofs.Lists.{at_set, exchanged}
use Rattle.glk_table.specs.Keys.{hash_of, key_of}
use Rattle.glk_table.specs.Rule.{no_rank, rank_word, strong_word, id_word, key_in, probe, Places, Fits, Tallies, Rule, Knowing, Knows, holds, saw, word_after, with_entered, with_rank, with_strong, Looked, Filled, Entered, Ranked, Strengthened}
use Rattle.glk_table.specs.Probing.{Passed}
use Rattle.glk_table.specs.declared.view.View.{View}
use Rattle.glk_table.proofs.Folds.{all_same, add_left, set_at}
use Rattle.glk_table.proofs.Members.{cons_cases}
use Rattle.glk_table.proofs.Filling.{Grows, places_same, fill_grows, places_fill, fits_grows, knowing}
use Rattle.glk_table.proofs.Tallies.{tallies_same, tallies_enter, tallies_rank, tallies_strong}

-- a step on one word by one seat
pub kept : (size : ℕ) (ks : List (ℕ × ℕ)) (ws now : List ℕ) (vs : List View) (id : ℕ) (v w : View) → Rule size ks ws vs → get_elem? vs id ≡ some v
    → length now ≡ length ws → Places size ks now → Grows size ws now → Tallies size now (set vs id w) → w.part ≡ v.part → Fits size ks now w → Rule size ks now (set vs id w)
kept size ks ws now vs id v w r e long places grow tallies part fits = record {
  lawful = r.lawful;
  room = r.room;
  long = long ∙ r.long;
  places = places;
  tallies = tallies;
  whole = all_same ◌+◌ 0 add_left refl (λ u. u.part) vs id v w e part ∙ r.whole;
  fits = λ by u at. ⊎_elim (λ (t : (by ≡ id) × (w ≡ u)). subst (Fits size ks now) t.1 fits) (λ (t : (by ≢ id) × (get_elem? vs by ≡ some u)). fits_grows size ks ws now u grow (r.fits by u t.1)) (at_set vs id by w u at);
}

-- what a view may add to what it has seen
fits_saw : (size : ℕ) (ks : List (ℕ × ℕ)) (ws : List ℕ) (p n : ℕ) (v : View) → p < size → slice_index ws p ≡ n → Fits size ks ws v → Fits size ks ws (saw p n v)
fits_saw size ks ws p zero v h e f = f
fits_saw size ks ws p (suc n) v h e f = record {
  size_is = f.size_is;
  keys_is = f.keys_is;
  stays = λ q w m.
      ⊎_elim
      (λ (t : (p, suc n) ≡ (q, w)).
      let a : p ≡ q = ap (λ x. x.0) t in
      let b : suc n ≡ w = ap (λ x. x.1) t in
      let c : slice_index ws q ≡ suc n = sym (ap (slice_index ws) a) ∙ e in
      (omega arith, omega arith, c ∙ b))
      (λ (t : Contains v.seen (q, w)). f.stays q w t)
      (cons_cases (p, suc n) v.seen (q, w) m);
  placed = f.placed;
  ranked = f.ranked;
  named = f.named;
  idle = f.idle;
}

saw_entered : (p n : ℕ) (v : View) → (saw p n v).entered ≡ v.entered
saw_entered p zero v = refl
saw_entered p (suc n) v = refl

saw_ranks : (p n : ℕ) (v : View) → (saw p n v).ranks ≡ v.ranks
saw_ranks p zero v = refl
saw_ranks p (suc n) v = refl

saw_strong : (p n : ℕ) (v : View) → (saw p n v).strong ≡ v.strong
saw_strong p zero v = refl
saw_strong p (suc n) v = refl

saw_part : (p n : ℕ) (v : View) → (saw p n v).part ≡ v.part
saw_part p zero v = refl
saw_part p (suc n) v = refl

saw_size : (p n : ℕ) (v : View) → (saw p n v).size ≡ v.size
saw_size p zero v = refl
saw_size p (suc n) v = refl

saw_keys : (p n : ℕ) (v : View) → (saw p n v).keys ≡ v.keys
saw_keys p zero v = refl
saw_keys p (suc n) v = refl

-- what a view that has a part knows
pub knows : (size : ℕ) (ks : List (ℕ × ℕ)) (ws : List ℕ) (vs : List View) (v : View) → Rule size ks ws vs → Fits size ks ws v → 0 < v.part → Knows v
knows size ks ws vs v r f part =
    let P : ℕ → Type 0 = λ s. Knowing s v.keys v in
    let Q : List (ℕ × ℕ) → Type 0 = λ k. Knowing size k v in
    subst P (sym (f.size_is part)) (subst Q (sym (f.keys_is part)) (knowing size ks ws v r.room r.places f))

-- what a seat knows after its step
knows_after : (size : ℕ) (ks : List (ℕ × ℕ)) (now : List ℕ) (vs : List View) (id : ℕ) (v w : View) → Rule size ks now (set vs id w) → get_elem? vs id ≡ some v → 0 < w.part → Knows w
knows_after size ks now vs id v w r at part = knows size ks now (set vs id w) w r (r.fits id w (set_at vs id v w at)) part

pub word_after_some : (n new : ℕ) → n ≢ 0 → word_after n new ≡ n
word_after_some zero new ne = absurd (ne refl)
word_after_some (suc n) new ne = refl

module _ (size : ℕ) (ks : List (ℕ × ℕ)) (ws : List ℕ) (vs : List View) (id : ℕ) (v : View) (r : Rule size ks ws vs) (at : get_elem? vs id ≡ some v) where
  some_place : 0 < size
  some_place = let h = r.room in omega arith

  -- a word is read
  pub rule_look : (p : ℕ) → p < size → Rule size ks ws (set vs id (saw p (slice_index ws p) v))
  rule_look p h =
      let n = slice_index ws p in
      kept size ks ws ws vs id v (saw p n v) r at refl r.places (λ _ _ _. refl)
      (tallies_same size ws vs r.tallies id v at ws (saw p n v) (λ _ _. refl) (saw_entered p n v) (saw_ranks p n v) (saw_strong p n v)) (saw_part p n v)
      (fits_saw size ks ws p n v h refl (r.fits id v at))

  -- a place is filled
  pub rule_fill : (p key j : ℕ) → p < size → slice_index ws p ≡ 0 → key < length ks → j < size → p ≡ probe size (hash_of ks key) j → Passed size ks v.seen key j
      → Rule size ks (set ws p (key + 1)) (set vs id (saw p (key + 1) v))
  rule_fill p key j h free is_id step place passed =
      let f = r.fits id v at in
      let n : ℕ = key + 1 in
      let now = set ws p n in
      let room : p < length ws = let l = r.long in omega arith in
      let earlier : (i : ℕ) → i < j → (0 < slice_index ws (probe size (hash_of ks key) i)) × (key_in ks (slice_index ws (probe size (hash_of ks key) i)) ≢ key_of ks key) =
      λ i lt. let m = passed i lt in let q = probe size (hash_of ks key) i in let s = f.stays q m.0 m.1 in
      (let a = s.1 in let b : slice_index ws q ≡ m.0 = s.2 in omega arith, λ e. m.2 (sym (ap (key_in ks) s.2) ∙ e)) in
      let grow = fill_grows size ks ws p key j some_place r.lawful r.places room is_id step place free earlier in
      kept size ks ws now vs id v (saw p n v) r at (length-set ws p n)
      (places_fill size ks ws p key j some_place r.lawful r.places room is_id step place free earlier)
      grow
      (tallies_same size ws vs r.tallies id v at now (saw p n v) (λ q le. get_or-set_other ws p q n 0 (λ e. omega arith)) (saw_entered p n v) (saw_ranks p n v) (saw_strong p n v))
      (saw_part p n v)
      (fits_saw size ks now p n v h (get_or-set_same ws p n 0 room) (fits_grows size ks ws now v grow f))

  -- a word from the size on changes
  pub rule_more : (i n : ℕ) (w : View) → size ≤ i → Tallies size (set ws i n) (set vs id w) → w.part ≡ v.part → Fits size ks ws w → Rule size ks (set ws i n) (set vs id w)
  rule_more i n w le tallies part fits =
      let now = set ws i n in
      let same : (p : ℕ) → p < size → slice_index now p ≡ slice_index ws p = λ p h. get_or-set_other ws i p n 0 (λ e. omega arith) in
      kept size ks ws now vs id v w r at (length-set ws i n) (places_same size ks ws now some_place same r.places) (λ p h _. same p h) tallies part (fits_grows size ks ws now w (λ p h _. same p h) fits)

  fits_enter : (p key w : ℕ) → 0 < v.part → key < length ks → Contains v.seen (p, w) → key_in ks w ≡ key_of ks key → Fits size ks ws (with_entered key p v)
  fits_enter p key w part is_id m same = let f = r.fits id v at in record {
    size_is = f.size_is;
    keys_is = f.keys_is;
    stays = f.stays;
    placed = λ a q k.
        ⊎_elim
        (λ (t : (key, p) ≡ (a, q)).
        let s = f.stays p w m in
        let P : ℕ × ℕ → Type 0 = λ x. (x.0 < length ks) × (x.1 < size) × (0 < slice_index ws x.1) × (key_of ks x.0 ≡ key_in ks (slice_index ws x.1)) in
        subst P t (is_id, s.0, (let a = s.1 in let b : slice_index ws p ≡ w = s.2 in omega arith), sym same ∙ sym (ap (key_in ks) s.2)))
        (λ (t : Contains v.entered (a, q)). f.placed a q t)
        (cons_cases (key, p) v.entered (a, q) k);
    ranked = f.ranked;
    named = f.named;
    idle = λ none. absurd (omega arith);
  }

  pub rule_enter : (p key w : ℕ) → p < size → 0 < v.part → key < length ks → Contains v.seen (p, w) → key_in ks w ≡ key_of ks key
      → Rule size ks (set ws (3 * size + p) (min (slice_index ws (3 * size + p)) key)) (set vs id (with_entered key p v))
  rule_enter p key w h part is_id m same =
      rule_more (3 * size + p) (min (slice_index ws (3 * size + p)) key) (with_entered key p v) (omega arith) (tallies_enter size ws vs r.tallies id v at p key h r.long) refl (fits_enter p key w part is_id m same)

  fits_rank : (p k : ℕ) → 0 < v.part → k < no_rank → Fits size ks ws (with_rank p k v)
  fits_rank p k part low = let f = r.fits id v at in record {
    size_is = f.size_is;
    keys_is = f.keys_is;
    stays = f.stays;
    placed = f.placed;
    ranked = λ q n m.
        ⊎_elim
        (λ (t : (p, k) ≡ (q, n)). let P : ℕ → Type 0 = λ x. x < no_rank in subst P (ap (λ x. x.1) t) low)
        (λ (t : Contains v.ranks (q, n)). f.ranked q n t)
        (cons_cases (p, k) v.ranks (q, n) m);
    named = f.named;
    idle = λ none. absurd (omega arith);
  }

  pub rule_rank : (p k : ℕ) → p < size → 0 < v.part → k < no_rank → Rule size ks (set ws (size + p) (min (slice_index ws (size + p)) k)) (set vs id (with_rank p k v))
  rule_rank p k h part low =
      rule_more (size + p) (min (slice_index ws (size + p)) k) (with_rank p k v) (omega arith) (tallies_rank size ws vs r.tallies id v at p k h r.long) refl (fits_rank p k part low)

  fits_strong : (p k : ℕ) → 0 < v.part → k < 2 ^ 32 → Fits size ks ws (with_strong p k v)
  fits_strong p k part low = let f = r.fits id v at in record {
    size_is = f.size_is;
    keys_is = f.keys_is;
    stays = f.stays;
    placed = f.placed;
    ranked = f.ranked;
    named = λ q n m.
        ⊎_elim
        (λ (t : (p, k) ≡ (q, n)). let P : ℕ → Type 0 = λ x. x < 2 ^ 32 in subst P (ap (λ x. x.1) t) low)
        (λ (t : Contains v.strong (q, n)). f.named q n t)
        (cons_cases (p, k) v.strong (q, n) m);
    idle = λ none. absurd (omega arith);
  }

  pub rule_strong : (p k : ℕ) → p < size → 0 < v.part → k < 2 ^ 32 → Rule size ks (set ws (2 * size + p) (max (slice_index ws (2 * size + p)) (k + 1))) (set vs id (with_strong p k v))
  rule_strong p k h part low =
      rule_more (2 * size + p) (max (slice_index ws (2 * size + p)) (k + 1)) (with_strong p k v) (omega arith) (tallies_strong size ws vs r.tallies id v at p k h r.long) refl (fits_strong p k part low)

module _ (size id : ℕ) (me : Me (Unit {0}) View) (part : 0 < me.0.part) where
  abbrev v : View
  v = me.0

  -- a load of a probe place
  pub looks : (slots p : ℕ) → p < size → Allows (holds size) slots id me p (λ n. n) (Looked (step slots p 0 0 none) me)
  looks slots p h s (ks, r) homes at bound =
      let n = slice_index s.words p in
      let w = saw p n v in
      let rule = rule_look size ks s.words s.views id v r at p h in
      let P : List ℕ → Type 0 = λ l. Rule size ks l (set s.views id w) in
      (w, keeps, tt, (ks, subst P (sym (set-get_or s.words p 0)) rule), (refl, knows_after size ks s.words s.views id v w rule at (let e = saw_part p n v in omega arith)))

  -- a compare-exchange that fills a probe place
  pub fills : (slots p key j : ℕ) → p < size → key < length v.keys → j < size → p ≡ probe size (hash_of v.keys key) j → Passed size v.keys v.seen key j
      → Allows (holds size) slots id me p (λ n. either (n == 0) (key + 1) n) (Filled (step slots p 0 (key + 1) none) me)
  fills slots p key j h is_id is_step place passed s (ks, r) homes at bound =
      let n = slice_index s.words p in
      let w = saw p (word_after n (key + 1)) v in
      let same : v.keys ≡ ks = (r.fits id v at).keys_is part in
      let Q : List (ℕ × ℕ) → Type 0 = λ k. (key < length k) × (p ≡ probe size (hash_of k key) j) × Passed size k v.seen key j in
      let q : Q ks = subst Q same (is_id, place, passed) in
      let R : ℕ → Type 0 = λ x. Rule size ks (set s.words p x) (set s.views id w) in
      let rule : R (either (n == 0) (key + 1) n) =
      exchanged n 0 (key + 1) R
      (λ e. let P : ℕ → Type 0 = λ k. Rule size ks (set s.words p (key + 1)) (set s.views id (saw p (word_after k (key + 1)) v)) in
      subst P (sym e) (rule_fill size ks s.words s.views id v r at p key j h e q.0 is_step q.1 q.2))
      (λ ne. let P : List ℕ → Type 0 = λ l. Rule size ks l (set s.views id (saw p n v)) in
      let S : ℕ → Type 0 = λ k. Rule size ks (set s.words p n) (set s.views id (saw p k v)) in
      subst S (sym (word_after_some n (key + 1) ne)) (subst P (sym (set-get_or s.words p 0)) (rule_look size ks s.words s.views id v r at p h))) in
      (w, keeps, tt, (ks, rule), (refl, knows_after size ks (set s.words p (either (n == 0) (key + 1) n)) s.views id v w rule at (let e = saw_part p (word_after n (key + 1)) v in omega arith)))

  -- a fetch_min of an id whose key fills the place
  pub enters : (slots i p key w : ℕ) → i ≡ 3 * size + p → v.size ≡ size → p < size → key < length v.keys → Contains v.seen (p, w) → key_in v.keys w ≡ key_of v.keys key
      → Allows (holds size) slots id me i (λ n. min n key) (Entered (step slots i key 0 none) me)
  enters slots i p key w is size_is h is_id seen key_is s (ks, r) homes at bound =
      let same : v.keys ≡ ks = (r.fits id v at).keys_is part in
      let Q : List (ℕ × ℕ) → Type 0 = λ k. (key < length k) × (key_in k w ≡ key_of k key) in
      let q : Q ks = subst Q same (is_id, key_is) in
      let u = with_entered key p v in
      let place : i - id_word v.size 0 ≡ p = omega arith in
      let given : u ≡ with_entered key (i - id_word v.size 0) v = ap (λ k. with_entered key k v) (sym place) in
      let P : ℕ → Type 0 = λ k. Rule size ks (set s.words k (min (slice_index s.words k) key)) (set s.views id u) in
      let rule : P i = subst P (sym is) (rule_enter size ks s.words s.views id v r at p key w h part q.0 seen q.1) in
      (u, keeps, tt, (ks, rule), (ap (λ (x : View). (x, me.1)) given, knows_after size ks (set s.words i (min (slice_index s.words i) key)) s.views id v u rule at part))

  -- a fetch_min of a rank
  pub ranks : (slots i p k : ℕ) → i ≡ size + p → v.size ≡ size → p < size → k < no_rank → Allows (holds size) slots id me i (λ n. min n k) (Ranked (step slots i k 0 none) me)
  ranks slots i p k is size_is h low s (ks, r) homes at bound =
      let u = with_rank p k v in
      let place : i - rank_word v.size 0 ≡ p = omega arith in
      let P : ℕ → Type 0 = λ x. Rule size ks (set s.words x (min (slice_index s.words x) k)) (set s.views id u) in
      (u, keeps, tt, (ks, subst P (sym is) (rule_rank size ks s.words s.views id v r at p k h part low)), ap (λ x. (with_rank x k v, me.1)) (sym place))

  -- a fetch_max of one more than a strong id
  pub strengthens : (slots i p k : ℕ) → i ≡ 2 * size + p → v.size ≡ size → p < size → k < 2 ^ 32 → Allows (holds size) slots id me i (λ n. max n (k + 1)) (Strengthened (step slots i (k + 1) 0 none) me)
  strengthens slots i p k is size_is h low s (ks, r) homes at bound =
      let u = with_strong p k v in
      let place : i - strong_word v.size 0 ≡ p = omega arith in
      let one : k + 1 - 1 ≡ k = omega arith in
      let P : ℕ → Type 0 = λ x. Rule size ks (set s.words x (max (slice_index s.words x) (k + 1))) (set s.views id u) in
      (u, keeps, tt, (ks, subst P (sym is) (rule_strong size ks s.words s.views id v r at p k h part low)), λ z. (with_strong (sym place z) (sym one z) v, me.1))
