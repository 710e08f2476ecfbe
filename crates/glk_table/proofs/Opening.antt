-- The table at its start, and the first seat that is given the keys.
use Rattle.std.proofs.Common.{◌≡◌, ◌≢◌, ℕ, zero, suc, ◌+◌, ◌*◌, ◌<◌, List, [], ◌∷◌, ◌++◌, length, set, replicate, refl, sym, ap, ◌∙◌, subst, ⊎_elim, arith, length-append}
use Rattle.std.proofs.lemmas.List.{set-get_or, get_or_append_left, get_or-append-add, get_or-replicate, length-replicate}
use Rattle.std.specs.Prelude.{slice_index, Contains}
use mathlib.Core.Option.{some, none, some-injective, some-ne-none}
use lib.ListN.{get_elem?}
use Rattle.atomic_table.specs.Table.{Me, step, keeps, Allows}
use Rattle.atomic_table.proofs.Lists.{at_set}
use Rattle.glk_table.specs.Keys.{IsLawful}
use Rattle.glk_table.specs.Rule.{no_rank, opening_words, Fits, Rule, holds, fresh_view, first_view, GivenKeys}
use Rattle.glk_table.specs.declared.view.View.{View}
use Rattle.glk_table.proofs.Folds.{all_at, all_same, add_left, sum_zero, without, without_else}
use Rattle.glk_table.proofs.Members.{in_none}
use Rattle.glk_table.proofs.Tallies.{tallies_same}

module _ (size : ℕ) where
  abbrev one : List ℕ
  one = replicate size 0

  abbrev two : List ℕ
  two = one ++ replicate size no_rank

  abbrev three : List ℕ
  three = two ++ replicate size 0

  length_one : length one ≡ size
  length_one = length-replicate size 0

  length_two : length two ≡ 2 * size
  length_two = let a = length-append one (replicate size no_rank) in let b : length (replicate size no_rank) ≡ size = length-replicate size no_rank in let c : length one ≡ size = length_one in omega arith

  length_three : length three ≡ 3 * size
  length_three = let a = length-append two (replicate size 0) in let b : length one ≡ size = length_one in let c = length_two in omega arith

  pub length_four : length (opening_words size) ≡ 4 * size
  length_four = let a = length-append three (replicate size no_rank) in let b : length (replicate size no_rank) ≡ size = length-replicate size no_rank in let c = length_three in omega arith

  read_last : (xs : List ℕ) (a i p : ℕ) → i ≡ length xs + p → p < size → slice_index (xs ++ replicate size a) i ≡ a
  read_last xs a i p e h = ap (slice_index (xs ++ replicate size a)) e ∙ (get_or-append-add xs (replicate size a) p 0 ∙ get_or-replicate size p a 0 h)

  read_four : (i : ℕ) → i < 3 * size → slice_index (opening_words size) i ≡ slice_index three i
  read_four i h = get_or_append_left three (replicate size no_rank) 0 i (let e = length_three in omega arith)

  read_three : (i : ℕ) → i < 2 * size → slice_index (opening_words size) i ≡ slice_index two i
  read_three i h = read_four i (omega arith) ∙ get_or_append_left two (replicate size 0) 0 i (let e = length_two in omega arith)

  first_free : (p : ℕ) → p < size → slice_index (opening_words size) p ≡ 0
  first_free p h = read_three p (omega arith) ∙ (get_or_append_left one (replicate size no_rank) 0 p (let e = length_one in omega arith) ∙ get_or-replicate size p 0 0 h)

  pub opens : 0 < size → Rule size [] (opening_words size) (first_view size ∷ [])
  opens some_place = record {
    lawful = λ a b ha hb e. absurd (omega arith);
    room = some_place;
    long = length_four;
    places = record {
      named = λ p h. let e = first_free p h in omega arith;
      apart = λ p q hp hq fp fq e. let z = first_free p hp in absurd (omega arith);
      path = λ p h f. let z = first_free p h in absurd (omega arith);
    };
    tallies = record {
      ranks = λ p h. read_three (size + p) (omega arith) ∙ read_last one no_rank (size + p) p (let e = length_one in omega arith) h;
      strong = λ p h. read_four (2 * size + p) (omega arith) ∙ read_last two 0 (2 * size + p) p (let e = length_two in omega arith) h;
      ids = λ p h. read_last three no_rank (3 * size + p) p (let e = length_three in omega arith) h;
    };
    whole = refl;
    fits = at_first;
  }
    where
      at_first : (by : ℕ) (v : View) → get_elem? (first_view size ∷ []) by ≡ some v → Fits size [] (opening_words size) v
      at_first zero v e = subst (Fits size [] (opening_words size)) (some-injective _ _ e) (record {
        size_is = λ _. refl;
        keys_is = λ _. refl;
        stays = λ p w m. absurd (in_none (p, w) m);
        placed = λ a p m. absurd (in_none (a, p) m);
        ranked = λ p r m. absurd (in_none (p, r) m);
        named = λ p r m. absurd (in_none (p, r) m);
        idle = λ _. (refl, refl, refl);
      })
      at_first (suc by) v e = absurd (some-ne-none v (sym e))

  module _ (ks now : List (ℕ × ℕ)) (ws : List ℕ) (vs : List View) (id : ℕ) (r : Rule size ks ws vs) (at : get_elem? vs id ≡ some (first_view size)) (lawful : IsLawful now) (room : length now < size) where
    no_keys : length ks ≡ 0
    no_keys = ap length (sym ((r.fits id (first_view size) at).keys_is (omega arith)))

    free : (p : ℕ) → p < size → slice_index ws p ≡ 0
    free p h = let a = r.places.named p h in let b = no_keys in omega arith

    -- the other views are spent
    others_spent : (by : ℕ) (u : View) → by ≢ id → get_elem? vs by ≡ some u → u.part ≡ 0
    others_spent by u ne e =
        let k = without_else vs id by u ne e in
        let all = all_at ◌+◌ 0 add_left refl (λ v. v.part) vs id (first_view size) at in
        let whole = r.whole in
        sum_zero (λ v. v.part) (without id vs) k.0 u (omega arith) k.1

    spent_fits : (u : View) → u.part ≡ 0 → Fits size ks ws u → Fits size now ws u
    spent_fits u zeroed f = record {
      size_is = λ h. absurd (omega arith);
      keys_is = λ h. absurd (omega arith);
      stays = f.stays;
      placed = λ a p m. let P : List (ℕ × ℕ) → Type 0 = λ l. Contains l (a, p) in absurd (in_none (a, p) (subst P (f.idle zeroed).0 m));
      ranked = f.ranked;
      named = f.named;
      idle = f.idle;
    }

    fresh_fits : Fits size now ws (fresh_view size now)
    fresh_fits = record {
      size_is = λ _. refl;
      keys_is = λ _. refl;
      stays = λ p w m. absurd (in_none (p, w) m);
      placed = λ a p m. absurd (in_none (a, p) m);
      ranked = λ p k m. absurd (in_none (p, k) m);
      named = λ p k m. absurd (in_none (p, k) m);
      idle = λ _. (refl, refl, refl);
    }

    pub rule_keys : Rule size now ws (set vs id (fresh_view size now))
    rule_keys = record {
      lawful = lawful;
      room = room;
      long = r.long;
      places = record {
        named = λ p h. let e = free p h in omega arith;
        apart = λ p q hp hq fp fq e. let z = free p hp in absurd (omega arith);
        path = λ p h f. let z = free p h in absurd (omega arith);
      };
      tallies = tallies_same size ws vs r.tallies id (first_view size) at ws (fresh_view size now) (λ _ _. refl) refl refl refl;
      whole = all_same ◌+◌ 0 add_left refl (λ u. u.part) vs id (first_view size) (fresh_view size now) at refl ∙ r.whole;
      fits = λ by u e.
          ⊎_elim
          (λ (t : (by ≡ id) × (fresh_view size now ≡ u)). subst (Fits size now ws) t.1 fresh_fits)
          (λ (t : (by ≢ id) × (get_elem? vs by ≡ some u)). spent_fits u (others_spent by u t.0 t.1) (r.fits by u t.1))
          (at_set vs id by (fresh_view size now) u e);
    }

  pub gives_keys : (id slots : ℕ) (me : Me (Unit {0}) View) (now : List (ℕ × ℕ)) → IsLawful now → length now < size → me.0 ≡ first_view size → Allows (holds size) slots id me 0 (λ n. n) (GivenKeys now (step slots 0 0 0 none) me)
  gives_keys id slots me now lawful room is s (ks, r) homes at bound =
      let at' : get_elem? s.views id ≡ some (first_view size) = at ∙ ap some is in
      let rule = rule_keys ks now s.words s.views id r at' lawful room in
      let P : List ℕ → Type 0 = λ l. Rule size now l (set s.views id (fresh_view size now)) in
      (fresh_view size now, keeps, tt, (now, subst P (sym (set-get_or s.words 0 0)) rule), ap (λ (v : View). (fresh_view v.size now, me.1)) (sym is))
