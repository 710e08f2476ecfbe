-- A seat is cut in two, and two seats become one.
use Rattle.std.proofs.Common.{◌≡◌, ◌≢◌, ℕ, ◌+◌, ◌<◌, ◌≤◌, min, max, Bool, true, false, List, [], ◌∷◌, ◌++◌, set, refl, sym, ap, ◌∙◌, subst, ⊎_elim, arith}
use Rattle.std.proofs.lemmas.List.Elements.{Contains-append_cases}
use Rattle.std.specs.Prelude.{Contains, ◌==◌, if◌then◌else◌}
use mathlib.Core.Option.{some}
use lib.ListN.{get_elem?}
use Rattle.atomic_table.specs.Table.{Splits, Joins}
use Rattle.atomic_table.proofs.Lists.{at_set, at_snoc, set_again}
use Rattle.glk_table.specs.Rule.{no_rank, least_by, least_at, least_id, greatest_at, Fits, Rule, holds, kept_half, given_half, both_views, spent_view}
use Rattle.glk_table.specs.declared.view.View.{View}
use Rattle.glk_table.proofs.Folds.{all_split, all_join, add_left, add_assoc', min_left, min_assoc, max_left, max_assoc}
use Rattle.glk_table.proofs.Members.{in_none}

if_le : (b : Bool) (m n k : ℕ) → m ≤ k → n ≤ k → (if b then m else n) ≤ k
if_le true m n k hm hn = hm
if_le false m n k hm hn = hn

pub least_top : (place number : ℕ × ℕ → ℕ) (p : ℕ) (es : List (ℕ × ℕ)) → least_by place number p es ≤ no_rank
least_top place number p [] = omega arith
least_top place number p (x ∷ xs) = let h = least_top place number p xs in if_le (place x == p) (min (number x) (least_by place number p xs)) (least_by place number p xs) no_rank (omega arith) h

if_op : (b : Bool) (op : ℕ → ℕ → ℕ) (x a c : ℕ) → ((u v w : ℕ) → op (op u v) w ≡ op u (op v w)) → op (if b then op x a else a) c ≡ (if b then op x (op a c) else op a c)
if_op true op x a c assoc = assoc x a c
if_op false op x a c assoc = refl

pub least_append : (place number : ℕ × ℕ → ℕ) (p : ℕ) (es fs : List (ℕ × ℕ)) → least_by place number p (es ++ fs) ≡ min (least_by place number p es) (least_by place number p fs)
least_append place number p [] fs = let h = least_top place number p fs in omega arith
least_append place number p (x ∷ xs) fs =
    ap (λ k. if place x == p then min (number x) k else k) (least_append place number p xs fs)
    ∙ sym (if_op (place x == p) min (number x) (least_by place number p xs) (least_by place number p fs) min_assoc)

pub greatest_append : (p : ℕ) (es fs : List (ℕ × ℕ)) → greatest_at p (es ++ fs) ≡ max (greatest_at p es) (greatest_at p fs)
greatest_append p [] fs = omega arith
greatest_append p (x ∷ xs) fs =
    ap (λ k. if x.0 == p then max (x.1 + 1) k else k) (greatest_append p xs fs) ∙ sym (if_op (x.0 == p) max (x.1 + 1) (greatest_at p xs) (greatest_at p fs) max_assoc)

module _ (size : ℕ) (ks : List (ℕ × ℕ)) (ws : List ℕ) (vs : List View) (r : Rule size ks ws vs) (id : ℕ) (v : View) (at : get_elem? vs id ≡ some v) where
  f : Fits size ks ws v
  f = r.fits id v at

  fits_kept : 2 ≤ v.part → Fits size ks ws (kept_half v)
  fits_kept h = record {
    size_is = λ _. f.size_is (omega arith);
    keys_is = λ _. f.keys_is (omega arith);
    stays = f.stays;
    placed = f.placed;
    ranked = f.ranked;
    named = f.named;
    idle = λ e. absurd (omega arith);
  }

  fits_given : 2 ≤ v.part → Fits size ks ws (given_half v)
  fits_given h = record {
    size_is = λ _. f.size_is (omega arith);
    keys_is = λ _. f.keys_is (omega arith);
    stays = λ p w m. absurd (in_none (p, w) m);
    placed = λ a p m. absurd (in_none (a, p) m);
    ranked = λ p k m. absurd (in_none (p, k) m);
    named = λ p k m. absurd (in_none (p, k) m);
    idle = λ _. (refl, refl, refl);
  }

  pub rule_fork : 2 ≤ v.part → Rule size ks ws (set vs id (kept_half v) ++ given_half v ∷ [])
  rule_fork h = record {
    lawful = r.lawful;
    room = r.room;
    long = r.long;
    places = r.places;
    tallies = record {
      ranks = λ p hp. r.tallies.ranks p hp ∙ sym (all_split min no_rank min_left refl (λ u. least_at p u.ranks) min_assoc vs id v (kept_half v) (given_half v) at (let b = least_top (λ x. x.0) (λ x. x.1) p v.ranks in omega arith));
      strong = λ p hp. r.tallies.strong p hp ∙ sym (all_split max 0 max_left refl (λ u. greatest_at p u.strong) max_assoc vs id v (kept_half v) (given_half v) at (omega arith));
      ids = λ p hp. r.tallies.ids p hp ∙ sym (all_split min no_rank min_left refl (λ u. least_id p u.entered) min_assoc vs id v (kept_half v) (given_half v) at (let b = least_top (λ x. x.1) (λ x. x.0) p v.entered in omega arith));
    };
    whole = all_split ◌+◌ 0 add_left refl (λ u. u.part) add_assoc' vs id v (kept_half v) (given_half v) at (omega arith) ∙ r.whole;
    fits = λ by u e.
        ⊎_elim
        (λ (was : get_elem? (set vs id (kept_half v)) by ≡ some u).
        ⊎_elim
        (λ (t : (by ≡ id) × (kept_half v ≡ u)). subst (Fits size ks ws) t.1 (fits_kept h))
        (λ (t : (by ≢ id) × (get_elem? vs by ≡ some u)). r.fits by u t.1)
        (at_set vs id by (kept_half v) u was))
        (λ (t : given_half v ≡ u). subst (Fits size ks ws) t (fits_given h))
        (at_snoc (set vs id (kept_half v)) (given_half v) u by e);
  }

  module _ (other : ℕ) (w : View) (apart : ¬ (other ≡ id)) (there : get_elem? vs other ≡ some w) (part : 0 < v.part) where
    g : Fits size ks ws w
    g = r.fits other w there

    fits_both : Fits size ks ws (both_views v w)
    fits_both = record {
      size_is = λ _. f.size_is part;
      keys_is = λ _. f.keys_is part;
      stays = λ p n m. ⊎_elim (λ (t : Contains v.seen (p, n)). f.stays p n t) (λ (t : Contains w.seen (p, n)). g.stays p n t) (Contains-append_cases v.seen w.seen (p, n) m);
      placed = λ a p m. ⊎_elim (λ (t : Contains v.entered (a, p)). f.placed a p t) (λ (t : Contains w.entered (a, p)). g.placed a p t) (Contains-append_cases v.entered w.entered (a, p) m);
      ranked = λ p n m. ⊎_elim (λ (t : Contains v.ranks (p, n)). f.ranked p n t) (λ (t : Contains w.ranks (p, n)). g.ranked p n t) (Contains-append_cases v.ranks w.ranks (p, n) m);
      named = λ p n m. ⊎_elim (λ (t : Contains v.strong (p, n)). f.named p n t) (λ (t : Contains w.strong (p, n)). g.named p n t) (Contains-append_cases v.strong w.strong (p, n) m);
      idle = λ e. absurd (omega arith);
    }

    fits_spent : Fits size ks ws spent_view
    fits_spent = record {
      size_is = λ h. absurd (omega arith);
      keys_is = λ h. absurd (omega arith);
      stays = λ p n m. absurd (in_none (p, n) m);
      placed = λ a p m. absurd (in_none (a, p) m);
      ranked = λ p k m. absurd (in_none (p, k) m);
      named = λ p k m. absurd (in_none (p, k) m);
      idle = λ _. (refl, refl, refl);
    }

    same_views : set (set vs id v) other w ≡ vs
    same_views = ap (λ l. set l other w) (set_again vs id v at) ∙ set_again vs other w there

    pub rule_join : Rule size ks ws (set (set vs id (both_views v w)) other spent_view)
    rule_join = record {
      lawful = r.lawful;
      room = r.room;
      long = r.long;
      places = r.places;
      tallies = record {
        ranks = λ p hp. r.tallies.ranks p hp ∙ sym (all_join min no_rank min_left refl (λ u. least_at p u.ranks) vs id other v w (both_views v w) spent_view min_assoc apart at there same_views (least_append (λ x. x.0) (λ x. x.1) p v.ranks w.ranks) refl);
        strong = λ p hp. r.tallies.strong p hp ∙ sym (all_join max 0 max_left refl (λ u. greatest_at p u.strong) vs id other v w (both_views v w) spent_view max_assoc apart at there same_views (greatest_append p v.strong w.strong) refl);
        ids = λ p hp. r.tallies.ids p hp ∙ sym (all_join min no_rank min_left refl (λ u. least_id p u.entered) vs id other v w (both_views v w) spent_view min_assoc apart at there same_views (least_append (λ x. x.1) (λ x. x.0) p v.entered w.entered) refl);
      };
      whole = all_join ◌+◌ 0 add_left refl (λ u. u.part) vs id other v w (both_views v w) spent_view add_assoc' apart at there same_views refl refl ∙ r.whole;
      fits = λ by u e.
          ⊎_elim
          (λ (t : (by ≡ other) × (spent_view ≡ u)). subst (Fits size ks ws) t.1 fits_spent)
          (λ (t : (by ≢ other) × (get_elem? (set vs id (both_views v w)) by ≡ some u)).
          ⊎_elim
          (λ (x : (by ≡ id) × (both_views v w ≡ u)). subst (Fits size ks ws) x.1 fits_both)
          (λ (x : (by ≢ id) × (get_elem? vs by ≡ some u)). r.fits by u x.1)
          (at_set vs id by (both_views v w) u t.1))
          (at_set (set vs id (both_views v w)) other by spent_view u e);
    }

pub splits : (size id : ℕ) (v : View) → 2 ≤ v.part → Splits (holds size) id v (kept_half v) (given_half v)
splits size id v h s (ks, r) at = (ks, rule_fork size ks s.words s.views r id v at h)

pub joins : (size id : ℕ) (v : View) (other : ℕ) (w : View) → 0 < v.part → Joins (holds size) id v other w (both_views v w) spent_view
joins size id v other w part s (ks, r) at apart there =
    let was : get_elem? s.views other ≡ some w = ⊎_elim (λ (t : (other ≡ id) × (both_views v w ≡ w)). absurd (apart t.0)) (λ (t : (other ≢ id) × (get_elem? s.views other ≡ some w)). t.1) (at_set s.views id other (both_views v w) w there) in
    (ks, rule_join size ks s.words s.views r id v at other w apart was part)
