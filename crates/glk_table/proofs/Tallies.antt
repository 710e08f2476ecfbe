-- How the least and greatest numbers follow what the views hold.
use Rattle.std.proofs.Common.{◌≡◌, ◌≢◌, ℕ, ◌+◌, ◌*◌, ◌<◌, ◌≤◌, min, max, Bool, List, ◌∷◌, length, set, refl, sym, ap, ◌∙◌, subst, eq-eqb, ne_eqb, arith, get_or-set_other, get_or-set_same}
use Rattle.std.specs.Prelude.{slice_index, if◌then◌else◌}
use mathlib.Core.Option.{some}
use mathlib.Core.Logic.{dite}
use native.Mathlib.Decide.{ℕ_discrete}
use lib.ListN.{get_elem?}
use Rattle.glk_table.specs.Rule.{no_rank, least_at, greatest_at, least_id, fold_views, Tallies, with_entered, with_rank, with_strong}
use Rattle.glk_table.specs.declared.view.View.{View}
use Rattle.glk_table.proofs.Folds.{all_same, all_more, min_left, min_assoc, max_left, max_assoc}

least_id_here : (p id : ℕ) (es : List (ℕ × ℕ)) → least_id p ((id, p) ∷ es) ≡ min id (least_id p es)
least_id_here p id es = ap (λ (b : Bool). if b then min id (least_id p es) else least_id p es) (eq-eqb p p refl)

least_id_else : (p q id : ℕ) (es : List (ℕ × ℕ)) → p ≢ q → least_id q ((id, p) ∷ es) ≡ least_id q es
least_id_else p q id es ne = ap (λ (b : Bool). if b then min id (least_id q es) else least_id q es) (ne_eqb p q ne)

least_at_here : (p r : ℕ) (es : List (ℕ × ℕ)) → least_at p ((p, r) ∷ es) ≡ min r (least_at p es)
least_at_here p r es = ap (λ (b : Bool). if b then min r (least_at p es) else least_at p es) (eq-eqb p p refl)

least_at_else : (p q r : ℕ) (es : List (ℕ × ℕ)) → p ≢ q → least_at q ((p, r) ∷ es) ≡ least_at q es
least_at_else p q r es ne = ap (λ (b : Bool). if b then min r (least_at q es) else least_at q es) (ne_eqb p q ne)

greatest_at_here : (p r : ℕ) (es : List (ℕ × ℕ)) → greatest_at p ((p, r) ∷ es) ≡ max (r + 1) (greatest_at p es)
greatest_at_here p r es = ap (λ (b : Bool). if b then max (r + 1) (greatest_at p es) else greatest_at p es) (eq-eqb p p refl)

greatest_at_else : (p q r : ℕ) (es : List (ℕ × ℕ)) → p ≢ q → greatest_at q ((p, r) ∷ es) ≡ greatest_at q es
greatest_at_else p q r es ne = ap (λ (b : Bool). if b then max (r + 1) (greatest_at q es) else greatest_at q es) (ne_eqb p q ne)

module _ (size : ℕ) (ws : List ℕ) (vs : List View) (t : Tallies size ws vs) (id : ℕ) (v : View) (at_id : get_elem? vs id ≡ some v) where
  same_ranks : (w : View) (q : ℕ) → w.ranks ≡ v.ranks → fold_views min no_rank (λ u. least_at q u.ranks) vs ≡ fold_views min no_rank (λ u. least_at q u.ranks) (set vs id w)
  same_ranks w q e = sym (all_same min no_rank min_left refl (λ u. least_at q u.ranks) vs id v w at_id (ap (least_at q) e))

  same_strong : (w : View) (q : ℕ) → w.strong ≡ v.strong → fold_views max 0 (λ u. greatest_at q u.strong) vs ≡ fold_views max 0 (λ u. greatest_at q u.strong) (set vs id w)
  same_strong w q e = sym (all_same max 0 max_left refl (λ u. greatest_at q u.strong) vs id v w at_id (ap (greatest_at q) e))

  same_ids : (w : View) (q : ℕ) → w.entered ≡ v.entered → fold_views min no_rank (λ u. least_id q u.entered) vs ≡ fold_views min no_rank (λ u. least_id q u.entered) (set vs id w)
  same_ids w q e = sym (all_same min no_rank min_left refl (λ u. least_id q u.entered) vs id v w at_id (ap (least_id q) e))

  -- nothing that is counted changes
  pub tallies_same : (now : List ℕ) (w : View) → ((p : ℕ) → size ≤ p → slice_index now p ≡ slice_index ws p) → w.entered ≡ v.entered → w.ranks ≡ v.ranks → w.strong ≡ v.strong → Tallies size now (set vs id w)
  tallies_same now w same e r s = record {
    ranks = λ p h. same (size + p) (omega arith) ∙ (t.ranks p h ∙ same_ranks w p r);
    strong = λ p h. same (2 * size + p) (omega arith) ∙ (t.strong p h ∙ same_strong w p s);
    ids = λ p h. same (3 * size + p) (omega arith) ∙ (t.ids p h ∙ same_ids w p e);
  }

  -- an id is entered at p
  pub tallies_enter : (p k : ℕ) → p < size → length ws ≡ 4 * size → Tallies size (set ws (3 * size + p) (min (slice_index ws (3 * size + p)) k)) (set vs id (with_entered k p v))
  tallies_enter p k h long =
      let i : ℕ = 3 * size + p in let n : ℕ = min (slice_index ws i) k in let w = with_entered k p v in record {
        ranks = λ q hq. get_or-set_other ws i (size + q) n 0 (λ e. omega arith) ∙ (t.ranks q hq ∙ same_ranks w q refl);
        strong = λ q hq. get_or-set_other ws i (2 * size + q) n 0 (λ e. omega arith) ∙ (t.strong q hq ∙ same_strong w q refl);
        ids = λ q hq.
            dite (ℕ_discrete p q)
            (λ e.
            let P : ℕ → Type 0 = λ x. slice_index (set ws i n) (3 * size + x) ≡ fold_views min no_rank (λ u. least_id x u.entered) (set vs id w) in
            let more = all_more min no_rank min_left refl (λ u. least_id p u.entered) min_assoc vs id v w k at_id (least_id_here p k v.entered) in
            let was = t.ids p h in
            let put : slice_index (set ws i n) i ≡ n = get_or-set_same ws i n 0 (omega arith) in
            subst P e (omega arith))
            (λ ne.
            get_or-set_other ws i (3 * size + q) n 0 (λ e. ne (omega arith)) ∙ (t.ids q hq ∙ sym (all_same min no_rank min_left refl (λ u. least_id q u.entered) vs id v w at_id (least_id_else p q k v.entered ne))));
      }

  -- a rank is offered at p
  pub tallies_rank : (p k : ℕ) → p < size → length ws ≡ 4 * size → Tallies size (set ws (size + p) (min (slice_index ws (size + p)) k)) (set vs id (with_rank p k v))
  tallies_rank p k h long =
      let i : ℕ = size + p in let n : ℕ = min (slice_index ws i) k in let w = with_rank p k v in record {
        ids = λ q hq. get_or-set_other ws i (3 * size + q) n 0 (λ e. omega arith) ∙ (t.ids q hq ∙ same_ids w q refl);
        strong = λ q hq. get_or-set_other ws i (2 * size + q) n 0 (λ e. omega arith) ∙ (t.strong q hq ∙ same_strong w q refl);
        ranks = λ q hq.
            dite (ℕ_discrete p q)
            (λ e.
            let P : ℕ → Type 0 = λ x. slice_index (set ws i n) (size + x) ≡ fold_views min no_rank (λ u. least_at x u.ranks) (set vs id w) in
            let more = all_more min no_rank min_left refl (λ u. least_at p u.ranks) min_assoc vs id v w k at_id (least_at_here p k v.ranks) in
            let was = t.ranks p h in
            let put : slice_index (set ws i n) i ≡ n = get_or-set_same ws i n 0 (omega arith) in
            subst P e (omega arith))
            (λ ne.
            get_or-set_other ws i (size + q) n 0 (λ e. ne (omega arith)) ∙ (t.ranks q hq ∙ sym (all_same min no_rank min_left refl (λ u. least_at q u.ranks) vs id v w at_id (least_at_else p q k v.ranks ne))));
      }

  -- an id is offered as strong at p
  pub tallies_strong : (p k : ℕ) → p < size → length ws ≡ 4 * size → Tallies size (set ws (2 * size + p) (max (slice_index ws (2 * size + p)) (k + 1))) (set vs id (with_strong p k v))
  tallies_strong p k h long =
      let i : ℕ = 2 * size + p in let n : ℕ = max (slice_index ws i) (k + 1) in let w = with_strong p k v in record {
        ids = λ q hq. get_or-set_other ws i (3 * size + q) n 0 (λ e. omega arith) ∙ (t.ids q hq ∙ same_ids w q refl);
        ranks = λ q hq. get_or-set_other ws i (size + q) n 0 (λ e. omega arith) ∙ (t.ranks q hq ∙ same_ranks w q refl);
        strong = λ q hq.
            dite (ℕ_discrete p q)
            (λ e.
            let P : ℕ → Type 0 = λ x. slice_index (set ws i n) (2 * size + x) ≡ fold_views max 0 (λ u. greatest_at x u.strong) (set vs id w) in
            let more = all_more max 0 max_left refl (λ u. greatest_at p u.strong) max_assoc vs id v w (k + 1) at_id (greatest_at_here p k v.strong) in
            let was = t.strong p h in
            let put : slice_index (set ws i n) i ≡ n = get_or-set_same ws i n 0 (omega arith) in
            subst P e (omega arith))
            (λ ne.
            get_or-set_other ws i (2 * size + q) n 0 (λ e. ne (omega arith)) ∙ (t.strong q hq ∙ sym (all_same max 0 max_left refl (λ u. greatest_at q u.strong) vs id v w at_id (greatest_at_else p q k v.strong ne))));
      }
