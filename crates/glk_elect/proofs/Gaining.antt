-- Lists that gain what ids give.
use Rattle.std.proofs.Common.{◌≡◌, ℕ, ◌+◌, ◌-◌, ◌<◌, ◌≤◌, ◌⊎◌, inl, inr, ⊎_elim, true, false, true≢false, List, [], ◌∷◌, ◌++◌, length, take, drop, set, refl, sym, ap, ◌∙◌, subst, arith, get_or-set_other, get_or-set_same}
use Rattle.std.proofs.Math.Seq.{take-append_seam}
use Rattle.std.proofs.lemmas.List.{get_or_append_left, get_or-append_right}
use Rattle.std.proofs.lemmas.List.Elements.{Contains-append_left, Contains-append_right, Contains-append_cases}
use Rattle.std.specs.Prelude.{slice_index, Contains, Option, Some, None}
use Rattle.std.specs.Option.{option_map_or}
use mathlib.Core.Logic.{dite}
use native.Mathlib.Decide.{dec_lt}
use Rattle.glk_base.specs.declared.ids.SymId.{SymId}
use Rattle.glk_table.specs.Elections.{Election, election_of}
use Rattle.glk_table.specs.Rule.{OnePlaceEach, fresh_view, kept_half, given_half, both_views}
use Rattle.glk_table.specs.Seats.{EntersAt, Offers}
use Rattle.glk_table.specs.declared.view.View.{View}
use Rattle.glk_table.proofs.Members.{cons_cases, here, there, in_none}
use Rattle.glk_elect.specs.Ballots.{vote_at}
use Rattle.glk_elect.specs.Polls.{IsCallOf, IsRankOf, IsStrongOf, AreThose, IsPolled, Poll}
use Rattle.glk_elect.specs.Steps.{Gains, AddsOne, OfSome, Adds}
use Rattle.glk_elect.specs.declared.ballot.Vote.{Vote}

gains_same : (xs ys : List (ℕ × ℕ)) (P : ℕ × ℕ → Type 0) → ys ≡ xs → ((x : ℕ × ℕ) → P x → ⊥) → Gains xs ys P
gains_same xs ys P e never =
    let Q : List (ℕ × ℕ) → Type 0 = λ l. Gains xs l P in
    subst Q (sym e) (record { only = λ x m. inl m; old = λ x m. m; new = λ x p. absurd (never x p) })

gains_one : (xs ys : List (ℕ × ℕ)) (y : ℕ × ℕ) (P : ℕ × ℕ → Type 0) → ys ≡ y ∷ xs → P y → ((x : ℕ × ℕ) → P x → y ≡ x) → Gains xs ys P
gains_one xs ys y P e p one =
    let Q : List (ℕ × ℕ) → Type 0 = λ l. Gains xs l P in
    subst Q (sym e) (record {
      only = λ x m. ⊎_elim (λ (t : y ≡ x). inr (subst P t p)) (λ (t : Contains xs x). inl t) (cons_cases y xs x m);
      old = λ x m. there y xs x m;
      new = λ x q. let R : ℕ × ℕ → Type 0 = λ z. Contains (y ∷ xs) z in subst R (one x q) (here y xs);
    })

gains_trans : (xs ys zs : List (ℕ × ℕ)) (P Q R : ℕ × ℕ → Type 0) → Gains xs ys P → Gains ys zs Q → ((x : ℕ × ℕ) → P x → R x) → ((x : ℕ × ℕ) → Q x → R x) → ((x : ℕ × ℕ) → R x → P x ⊎ Q x) → Gains xs zs R
gains_trans xs ys zs P Q R g h pr qr rpq = record {
  only = λ x m.
      ⊎_elim
      (λ (t : Contains ys x). ⊎_elim (λ (k : Contains xs x). inl k) (λ (k : P x). inr (pr x k)) (g.only x t))
      (λ (t : Q x). inr (qr x t))
      (h.only x m);
  old = λ x m. h.old x (g.old x m);
  new = λ x r. ⊎_elim (λ (t : P x). h.old x (g.new x t)) (λ (t : Q x). h.new x t) (rpq x r);
}

gains_both : (xs ys zs : List (ℕ × ℕ)) (P Q R : ℕ × ℕ → Type 0) → Gains xs ys P → Gains [] zs Q → ((x : ℕ × ℕ) → P x → R x) → ((x : ℕ × ℕ) → Q x → R x) → ((x : ℕ × ℕ) → R x → P x ⊎ Q x) → Gains xs (ys ++ zs) R
gains_both xs ys zs P Q R g h pr qr rpq = record {
  only = λ x m.
      ⊎_elim
      (λ (t : Contains ys x). ⊎_elim (λ (k : Contains xs x). inl k) (λ (k : P x). inr (pr x k)) (g.only x t))
      (λ (t : Contains zs x). ⊎_elim (λ (k : Contains [] x). absurd (in_none x k)) (λ (k : Q x). inr (qr x k)) (h.only x t))
      (Contains-append_cases ys zs x m);
  old = λ x m. Contains-append_left ys zs x (g.old x m);
  new = λ x r. ⊎_elim (λ (t : P x). Contains-append_left ys zs x (g.new x t)) (λ (t : Q x). Contains-append_right ys zs x (h.new x t)) (rpq x r);
}

-- one more id
module _ (Q : ℕ → ℕ → ℕ × ℕ → Type 0) (first : ℕ) (places : List ℕ) (n p : ℕ) (room : n < length places) where
  abbrev now : List ℕ
  now = set places n p

  still : (i : ℕ) → i < n → slice_index now i ≡ slice_index places i
  still i h = get_or-set_other places n i p 0 (λ e. omega arith)

  here_now : slice_index now n ≡ p
  here_now = get_or-set_same places n p 0 room

  gains_id : (xs ys zs : List (ℕ × ℕ)) → Gains xs ys (OfSome Q first places n) → Gains ys zs (Q (first + n) p) → Gains xs zs (OfSome Q first now (n + 1))
  gains_id xs ys zs g h =
      gains_trans xs ys zs (OfSome Q first places n) (Q (first + n) p) (OfSome Q first now (n + 1)) g h
      (λ x t. let P : ℕ → Type 0 = λ k. Q (first + t.0) k x in (t.0, (let a = t.1 in omega arith), subst P (sym (still t.0 t.1)) t.2))
      (λ x t. let P : ℕ → Type 0 = λ k. Q (first + n) k x in (n, omega arith, subst P (sym here_now) t))
      (λ x t.
      dite (dec_lt t.0 n)
      (λ lt. let P : ℕ → Type 0 = λ k. Q (first + t.0) k x in inl (t.0, lt, subst P (still t.0 lt) t.2))
      (λ ge.
      let same : t.0 ≡ n = let a = t.1 in omega arith in
      let P : ℕ → Type 0 = λ k. Q (first + k) (slice_index now k) x in
      let S : ℕ → Type 0 = λ k. Q (first + n) k x in
      inr (subst S here_now (subst P same t.2))))

pub adds_none : (v : View) (votes : List (Option Vote)) (first : ℕ) (places : List ℕ) → Adds v v votes first places 0
adds_none v votes first places = record {
  size_is = refl;
  keys_is = refl;
  part_is = refl;
  calls = gains_same v.entered v.entered (OfSome IsCallOf first places 0) refl (λ x t. let h = t.1 in omega arith);
  ranks = gains_same v.ranks v.ranks (OfSome (IsRankOf votes) first places 0) refl (λ x t. let h = t.1 in omega arith);
  strong = gains_same v.strong v.strong (OfSome (IsStrongOf votes) first places 0) refl (λ x t. let h = t.1 in omega arith);
}

pub adds_more : (u v w : View) (votes : List (Option Vote)) (first : ℕ) (places : List ℕ) (n p : ℕ) → n < length places → Adds u v votes first places n → AddsOne v w votes (first + n) p → Adds u w votes first (set places n p) (n + 1)
adds_more u v w votes first places n p room a c = record {
  size_is = c.size_is ∙ a.size_is;
  keys_is = c.keys_is ∙ a.keys_is;
  part_is = c.part_is ∙ a.part_is;
  calls = gains_id IsCallOf first places n p room u.entered v.entered w.entered a.calls c.calls;
  ranks = gains_id (IsRankOf votes) first places n p room u.ranks v.ranks w.ranks a.ranks c.ranks;
  strong = gains_id (IsStrongOf votes) first places n p room u.strong v.strong w.strong a.strong c.strong;
}

-- two parts, of which the second begins after the first
module _ (Q : ℕ → ℕ → ℕ × ℕ → Type 0) (first middle : ℕ) (fp bp : List ℕ) (meets : middle ≡ first + length fp) where
  in_front : (i : ℕ) → i < length fp → slice_index (fp ++ bp) i ≡ slice_index fp i
  in_front i h = get_or_append_left fp bp 0 i h

  in_back : (i : ℕ) → length fp ≤ i → slice_index (fp ++ bp) i ≡ slice_index bp (i - length fp)
  in_back i h = get_or-append_right fp bp (length fp) i 0 refl h

  gains_parts : (xs ys zs : List (ℕ × ℕ)) (n : ℕ) → n ≡ length fp + length bp → Gains xs ys (OfSome Q first fp (length fp)) → Gains [] zs (OfSome Q middle bp (length bp)) → Gains xs (ys ++ zs) (OfSome Q first (fp ++ bp) n)
  gains_parts xs ys zs n whole g h =
      gains_both xs ys zs (OfSome Q first fp (length fp)) (OfSome Q middle bp (length bp)) (OfSome Q first (fp ++ bp) n) g h
      (λ x t. let P : ℕ → Type 0 = λ k. Q (first + t.0) k x in (t.0, (let a = t.1 in omega arith), subst P (sym (in_front t.0 t.1)) t.2))
      (λ x t.
      let i : ℕ = length fp + t.0 in
      let back : i - length fp ≡ t.0 = omega arith in
      let place : slice_index (fp ++ bp) i ≡ slice_index bp t.0 = in_back i (omega arith) ∙ ap (slice_index bp) back in
      let id : middle + t.0 ≡ first + i = omega arith in
      let P : ℕ × ℕ → Type 0 = λ y. Q y.0 y.1 x in
      (i, (let k = t.1 in omega arith), subst P (λ z. (id z, sym place z)) t.2))
      (λ x t.
      dite (dec_lt t.0 (length fp))
      (λ lt. let P : ℕ → Type 0 = λ k. Q (first + t.0) k x in inl (t.0, lt, subst P (in_front t.0 lt) t.2))
      (λ ge.
      let place = in_back t.0 (omega arith) in
      let id : first + t.0 ≡ middle + (t.0 - length fp) = omega arith in
      let P : ℕ × ℕ → Type 0 = λ y. Q y.0 y.1 x in
      inr (t.0 - length fp, (let k = t.1 in omega arith), subst P (λ z. (id z, place z)) t.2)))

pub adds_parts : (v w u : View) (votes : List (Option Vote)) (first middle : ℕ) (fp bp : List ℕ) (n : ℕ) → middle ≡ first + length fp → n ≡ length fp + length bp → Adds (kept_half v) w votes first fp (length fp) → Adds (given_half v) u votes middle bp (length bp) → Adds v (both_views w u) votes first (fp ++ bp) n
adds_parts v w u votes first middle fp bp n meets whole a b = record {
  size_is = a.size_is;
  keys_is = a.keys_is;
  part_is = let x = a.part_is in let y = b.part_is in omega arith;
  calls = gains_parts IsCallOf first middle fp bp meets v.entered w.entered u.entered n whole a.calls b.calls;
  ranks = gains_parts (IsRankOf votes) first middle fp bp meets v.ranks w.ranks u.ranks n whole a.ranks b.ranks;
  strong = gains_parts (IsStrongOf votes) first middle fp bp meets v.strong w.strong u.strong n whole a.strong b.strong;
}

-- an id without a vote
module _ (v w : View) (votes : List (Option Vote)) (id p : ℕ) (e : EntersAt v id p w) (mute : vote_at votes id ≡ None) where
  unvoted : (x : Vote) → vote_at votes id ≡ Some x → ⊥
  unvoted x is = true≢false (ap (λ (o : Option Vote). option_map_or (λ (z : Vote). true) o false) (sym is ∙ mute))

  pub only_entered : AddsOne v w votes id p
  only_entered = record {
    size_is = e.size_is;
    keys_is = e.keys_is;
    part_is = e.part_is;
    calls = gains_one v.entered w.entered (id, p) (IsCallOf id p) e.entered_is refl (λ x t. sym t);
    ranks = gains_same v.ranks w.ranks (IsRankOf votes id p) e.ranks_is (λ x t. unvoted t.0 t.1);
    strong = gains_same v.strong w.strong (IsStrongOf votes id p) e.strong_is (λ x t. unvoted t.0 t.1);
  }

some_one : (x y : Vote) → Some x ≡ Some y → x ≡ y
some_one x y e = ap (λ (o : Option Vote). option_map_or (λ (z : Vote). z) o x) e

-- an id that votes
module _ (v m w : View) (votes : List (Option Vote)) (id p : ℕ) (x : Vote) (s : Option SymId) (e : EntersAt v id p m) (o : Offers m p x.rank s w) (votes_so : vote_at votes id ≡ Some x) where
  abbrev one_vote : (y : Vote) → vote_at votes id ≡ Some y → x ≡ y
  one_vote y is = some_one x y (sym votes_so ∙ is)

  offered_with : Gains v.strong w.strong (IsStrongOf votes id p) → AddsOne v w votes id p
  offered_with strong = record {
    size_is = o.size_is ∙ e.size_is;
    keys_is = o.keys_is ∙ e.keys_is;
    part_is = o.part_is ∙ e.part_is;
    calls = gains_one v.entered w.entered (id, p) (IsCallOf id p) (o.entered_is ∙ e.entered_is) refl (λ y t. sym t);
    ranks = gains_one v.ranks w.ranks (p, x.rank) (IsRankOf votes id p) (o.ranks_is ∙ ap (λ l. (p, x.rank) ∷ l) e.ranks_is) (x, votes_so, refl) (λ y t. ap (λ (z : Vote). (p, z.rank)) (one_vote t.0 t.1) ∙ sym t.2);
    strong = strong;
  }

  pub votes_strong : (k : SymId) → s ≡ Some k → k.0 ≡ id → x.strong ≡ true → AddsOne v w votes id p
  votes_strong k is same on =
      offered_with (gains_one v.strong w.strong (p, id) (IsStrongOf votes id p) (o.strong_is ∙ (ap (λ j. option_map_or (λ (i : SymId). (p, i.0) ∷ m.strong) j m.strong) is ∙ (λ z. (p, same z) ∷ e.strong_is z))) (x, votes_so, on, refl) (λ y t. sym t.3))

  pub votes_weak : s ≡ None → x.strong ≡ false → AddsOne v w votes id p
  votes_weak is off =
      offered_with (gains_same v.strong w.strong (IsStrongOf votes id p) (o.strong_is ∙ (ap (λ j. option_map_or (λ (i : SymId). (p, i.0) ∷ m.strong) j m.strong) is ∙ e.strong_is)) (λ y t. true≢false (sym t.2 ∙ (ap (λ (z : Vote). z.strong) (sym (one_vote t.0 t.1)) ∙ off))))

-- from an empty view on, those are all
pub are_those : (Q : ℕ → ℕ → ℕ × ℕ → Type 0) (places : List ℕ) (xs : List (ℕ × ℕ)) → Gains [] xs (OfSome Q 0 places (length places)) → AreThose Q places xs
are_those Q places xs g = record {
  each = λ id x h q.
      let P : ℕ → Type 0 = λ k. Q k (slice_index places id) x in
      let e : id ≡ 0 + id = omega arith in
      g.new x (id, h, subst P e q);
  only = λ x m.
      ⊎_elim
      (λ (k : Contains [] x). absurd (in_none x k))
      (λ (k : OfSome Q 0 places (length places) x).
      let P : ℕ → Type 0 = λ j. Q j (slice_index places k.0) x in
      let e : 0 + k.0 ≡ k.0 = omega arith in
      (k.0, k.1, subst P e k.2))
      (g.only x m);
}

-- a seat that has gone over all ids from nothing on has polled them
pub polled : (keys : List (ℕ × ℕ)) (votes : List (Option Vote)) (size : ℕ) (v : View) (places : List ℕ) (e : Election) → Adds (fresh_view size keys) v votes 0 places (length places) → length places ≡ length keys → e ≡ election_of v → OnePlaceEach e.keys e.entered → IsPolled keys votes (record { election = e; places = places })
polled keys votes size v places e a long lists one =
    let P : Election → Type 0 = λ x. OnePlaceEach x.keys x.entered in
    let Q : Election → Type 0 = λ x. IsPolled keys votes (record { election = x; places = places }) in
    subst Q (sym lists) (record {
      keys_are = a.keys_is;
      places_are = long;
      calls = are_those IsCallOf places v.entered a.calls;
      ranks = are_those (IsRankOf votes) places v.ranks a.ranks;
      strong = are_those (IsStrongOf votes) places v.strong a.strong;
      one_place = subst P lists one;
    })

-- a list of numbers that was written over whole
pub refilled : (n : ℕ) (xs ws : List ℕ) → n ≡ length ws → take n (ws ++ drop (length ws) xs) ≡ ws
refilled n xs ws e = ap (λ k. take k (ws ++ drop (length ws) xs)) e ∙ take-append_seam ws (drop (length ws) xs)

-- the keys of a poll are those that its table was made with
pub of_own_keys : (keys : List (ℕ × ℕ)) (votes : List (Option Vote)) (poll : Poll) → IsPolled keys votes poll → IsPolled poll.election.keys votes poll
of_own_keys keys votes poll is =
    let P : List (ℕ × ℕ) → Type 0 = λ l. IsPolled l votes poll in
    subst P (sym is.keys_are) is
