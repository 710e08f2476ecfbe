-- How the words below the size change: a place is filled, and nothing else.
use Rattle.std.proofs.Common.{◌≡◌, ◌≢◌, ℕ, ◌+◌, ◌-◌, ◌<◌, ◌≤◌, List, length, set, sym, ap, ◌∙◌, subst, mod-lt, arith, get_or-set_other, get_or-set_same}
use Rattle.std.specs.Prelude.{slice_index}
use mathlib.Core.Logic.{dite}
use native.Mathlib.Decide.{ℕ_discrete, dec_lt}
use Rattle.glk_table.specs.Keys.{hash_of, key_of, IsLawful}
use Rattle.glk_table.specs.Rule.{key_in, probe, OnPath, Places, Fits, Knowing}
use Rattle.glk_table.specs.declared.view.View.{View}

-- filled words stay
abbrev pub Grows : ℕ → List ℕ → List ℕ → Type 0
Grows size ws now = (p : ℕ) → p < size → 0 < slice_index ws p → slice_index now p ≡ slice_index ws p

positive : (a b : ℕ) → a ≡ b → 0 < b → 0 < a
positive a b e h = omega arith

pub read_set : (ws : List ℕ) (at x p : ℕ) (F : ℕ → Type 0) → at < length ws → (p ≡ at → F x) → (p ≢ at → F (slice_index ws p)) → F (slice_index (set ws at x) p)
read_set ws at x p F h hit miss =
    dite (ℕ_discrete p at)
    (λ e. subst F (sym (ap (λ k. slice_index (set ws at x) k) e ∙ get_or-set_same ws at x 0 h)) (hit e))
    (λ ne. subst F (sym (get_or-set_other ws at p x 0 ne)) (miss ne))

pub probe_below : (size hash j : ℕ) → 0 < size → probe size hash j < size
probe_below size hash j h = mod-lt (hash + j) h

pub path_grows : (size : ℕ) (ks : List (ℕ × ℕ)) (ws now : List ℕ) (n p : ℕ) → 0 < size → Grows size ws now → OnPath size ks ws n p → OnPath size ks now n p
path_grows size ks ws now n p some grow path = (
  path.0,
  path.1,
  path.2,
  λ i h.
      let q = probe size (hash_of ks (n - 1)) i in
      let old = path.3 i h in
      let same : slice_index now q ≡ slice_index ws q = grow q (probe_below size (hash_of ks (n - 1)) i some) old.0 in
      (positive (slice_index now q) (slice_index ws q) same old.0, λ e. old.1 (sym (ap (key_in ks) same) ∙ e)),
)

pub places_same : (size : ℕ) (ks : List (ℕ × ℕ)) (ws now : List ℕ) → 0 < size → ((p : ℕ) → p < size → slice_index now p ≡ slice_index ws p) → Places size ks ws → Places size ks now
places_same size ks ws now some same s = record {
  named = λ p h. let P : ℕ → Type 0 = λ n. n ≤ length ks in subst P (sym (same p h)) (s.named p h);
  apart = λ p q hp hq fp fq e.
      s.apart p q hp hq (positive (slice_index ws p) (slice_index now p) (sym (same p hp)) fp) (positive (slice_index ws q) (slice_index now q) (sym (same q hq)) fq)
      (ap (key_in ks) (sym (same p hp)) ∙ (e ∙ ap (key_in ks) (same q hq)));
  path = λ p h f.
      let P : ℕ → Type 0 = λ n. OnPath size ks now n p in
      subst P (sym (same p h)) (path_grows size ks ws now (slice_index ws p) p some (λ q hq _. same q hq) (s.path p h (positive (slice_index ws p) (slice_index now p) (sym (same p h)) f)));
}

-- an id may fill a place where the earlier places of its path are filled with other keys
module _ (size : ℕ) (ks : List (ℕ × ℕ)) (ws : List ℕ) (at id j : ℕ) (some : 0 < size) (lawful : IsLawful ks) (s : Places size ks ws)
    (room : at < length ws) (is_id : id < length ks) (is_step : j < size) (is_place : at ≡ probe size (hash_of ks id) j) (free : slice_index ws at ≡ 0)
    (earlier : (i : ℕ) → i < j → (0 < slice_index ws (probe size (hash_of ks id) i)) × (key_in ks (slice_index ws (probe size (hash_of ks id) i)) ≢ key_of ks id)) where
  abbrev now : List ℕ
  now = set ws at (id + 1)

  new_key : key_in ks (id + 1) ≡ key_of ks id
  new_key = let e : id + 1 - 1 ≡ id = omega arith in ap (key_of ks) e

  below : at < size
  below = subst (λ n. n < size) (sym is_place) (probe_below size (hash_of ks id) j some)

  -- no place is filled with this key
  unique : (q : ℕ) → q < size → 0 < slice_index ws q → key_in ks (slice_index ws q) ≢ key_of ks id
  unique q h f same =
      let n = slice_index ws q in
      let name : n ≤ length ks = s.named q h in
      let hashes : hash_of ks (n - 1) ≡ hash_of ks id = lawful (n - 1) id (omega arith) is_id same in
      let path = s.path q h f in
      dite (dec_lt path.0 j)
      (λ lt.
      let where_q : q ≡ probe size (hash_of ks id) path.0 = path.2 ∙ ap (λ k. probe size k path.0) hashes in
      (earlier path.0 lt).1 (sym (ap (λ k. key_in ks (slice_index ws k)) where_q) ∙ same))
      (λ ge.
      dite (dec_lt j path.0)
      (λ lt.
      let here : probe size (hash_of ks (n - 1)) j ≡ at = ap (λ k. probe size k j) hashes ∙ sym is_place in
      let full : 0 < slice_index ws at = subst (λ k. 0 < slice_index ws k) here (path.3 j lt).0 in
      omega arith)
      (λ le.
      let one : path.0 ≡ j = omega arith in
      let q_at : q ≡ at = path.2 ∙ (ap (λ k. probe size k path.0) hashes ∙ (ap (λ k. probe size (hash_of ks id) k) one ∙ sym is_place)) in
      let none : slice_index ws q ≡ 0 = ap (slice_index ws) q_at ∙ free in
      omega arith))

  pub fill_grows : Grows size ws now
  fill_grows p h f = get_or-set_other ws at p (id + 1) 0 (λ e. let none : slice_index ws p ≡ 0 = ap (slice_index ws) e ∙ free in omega arith)

  same_else : (p : ℕ) → p ≢ at → slice_index now p ≡ slice_index ws p
  same_else p ne = get_or-set_other ws at p (id + 1) 0 ne

  same_here : slice_index now at ≡ id + 1
  same_here = get_or-set_same ws at (id + 1) 0 room

  -- at the new place and an old one
  no_two : (p q : ℕ) → p ≡ at → q ≢ at → q < size → 0 < slice_index now q → key_in ks (slice_index now p) ≡ key_in ks (slice_index now q) → ⊥
  no_two p q ep nq h f e =
      let old = same_else q nq in
      unique q h (positive (slice_index ws q) (slice_index now q) (sym old) f)
      (sym (ap (key_in ks) old) ∙ (sym e ∙ (ap (λ k. key_in ks (slice_index now k)) ep ∙ (ap (key_in ks) same_here ∙ new_key))))

  new_path : OnPath size ks now (id + 1) at
  new_path =
      let e : id + 1 - 1 ≡ id = omega arith in
      let P : ℕ → Type 0 = λ x. (k : ℕ) × (k < size) × (at ≡ probe size (hash_of ks x) k)
      × ((i : ℕ) → i < k → (0 < slice_index now (probe size (hash_of ks x) i)) × (key_in ks (slice_index now (probe size (hash_of ks x) i)) ≢ key_of ks x)) in
      subst P (sym e) (
        j,
        is_step,
        is_place,
        λ i h.
            let q = probe size (hash_of ks id) i in
            let old = earlier i h in
            let same : slice_index now q ≡ slice_index ws q = fill_grows q (probe_below size (hash_of ks id) i some) old.0 in
            (positive (slice_index now q) (slice_index ws q) same old.0, λ k. old.1 (sym (ap (key_in ks) same) ∙ k)),
      )

  pub places_fill : Places size ks now
  places_fill = record {
    named = λ p h. read_set ws at (id + 1) p (λ n. n ≤ length ks) room (λ _. omega arith) (λ _. s.named p h);
    apart = λ p q hp hq fp fq e.
        dite (ℕ_discrete p at)
        (λ ep. dite (ℕ_discrete q at) (λ eq. ep ∙ sym eq) (λ nq. absurd (no_two p q ep nq hq fq e)))
        (λ np. dite (ℕ_discrete q at) (λ eq. absurd (no_two q p eq np hp fp (sym e)))
        (λ nq.
        s.apart p q hp hq (positive (slice_index ws p) (slice_index now p) (sym (same_else p np)) fp) (positive (slice_index ws q) (slice_index now q) (sym (same_else q nq)) fq)
        (ap (key_in ks) (sym (same_else p np)) ∙ (e ∙ ap (key_in ks) (same_else q nq)))));
    path = λ p h f.
        dite (ℕ_discrete p at)
        (λ ep.
        let P : ℕ → Type 0 = λ k. OnPath size ks now (slice_index now k) k in
        let Q : ℕ → Type 0 = λ n. OnPath size ks now n at in
        subst P (sym ep) (subst Q (sym same_here) new_path))
        (λ np.
        let P : ℕ → Type 0 = λ n. OnPath size ks now n p in
        subst P (sym (same_else p np)) (path_grows size ks ws now (slice_index ws p) p some fill_grows (s.path p h (positive (slice_index ws p) (slice_index now p) (sym (same_else p np)) f))));
  }

-- what a view knows while words are filled
pub fits_grows : (size : ℕ) (ks : List (ℕ × ℕ)) (ws now : List ℕ) (v : View) → Grows size ws now → Fits size ks ws v → Fits size ks now v
fits_grows size ks ws now v grow f = record {
  size_is = f.size_is;
  keys_is = f.keys_is;
  stays = λ p w m. let s = f.stays p w m in (s.0, s.1, grow p s.0 (positive (slice_index ws p) w s.2 s.1) ∙ s.2);
  placed = λ id p m.
      let s = f.placed id p m in
      let same = grow p s.1 s.2 in
      (s.0, s.1, positive (slice_index now p) (slice_index ws p) same s.2, s.3 ∙ sym (ap (key_in ks) same));
  ranked = f.ranked;
  named = f.named;
  idle = f.idle;
}

pub knowing : (size : ℕ) (ks : List (ℕ × ℕ)) (ws : List ℕ) (v : View) → length ks < size → Places size ks ws → Fits size ks ws v → Knowing size ks v
knowing size ks ws v room places f = record {
  room = room;
  seen = λ p w m. let s = f.stays p w m in let P : ℕ → Type 0 = λ n. n ≤ length ks in (s.0, s.1, subst P s.2 (places.named p s.0));
  apart = λ p w q z m n e.
      let s = f.stays p w m in
      let t = f.stays q z n in
      places.apart p q s.0 t.0 (positive (slice_index ws p) w s.2 s.1) (positive (slice_index ws q) z t.2 t.1) (ap (key_in ks) s.2 ∙ (e ∙ sym (ap (key_in ks) t.2)));
  placed = λ id p m. let s = f.placed id p m in (s.0, s.1);
  calls = record {
    one_place = λ a p b q m n e. let s = f.placed a p m in let t = f.placed b q n in places.apart p q s.1 t.1 s.2 t.2 (sym s.3 ∙ (e ∙ t.3));
    one_key = λ a p b q m n e. let s = f.placed a p m in let t = f.placed b q n in s.3 ∙ (ap (λ k. key_in ks (slice_index ws k)) e ∙ sym t.3);
  };
}

pub at_below : (size hash j at : ℕ) → j < size → at ≡ probe size hash j → at < size
at_below size hash j at lt e = let h = probe_below size hash j (omega arith) in omega arith
