-- What a poll of the rows answers, in words of definitions.
use Rattle.std.proofs.Common.{◌≡◌, ℕ, ◌^◌, ◌<◌, ◌≤◌, ◌⊎◌, inl, inr, true, false, sym, ap, ◌∙◌, refl, subst, arith, Option, Some, None, true≢false}
use Rattle.std.specs.Option.{option_map, option_map_or}
use Rattle.std.proofs.lemmas.Bool.{cases_lt}
use Rattle.glk_table.specs.Ranks.{rank_of, id_in}
use Rattle.glk_table.specs.declared.ranks.RankClass.{RankClass}
use Rattle.glk_table.specs.declared.ranks.RankClass.TheVariants.{Strong, Shared, Other}
use Rattle.glk_table.proofs.RankOrder.{rank_in_order}
use Rattle.glk_elect.specs.Answers.{VotesFor, IsLeastRankOf, IsGreatestOf}
use Rattle.glk_elect.specs.declared.ballot.Vote.{Vote}
use Rattle.glk_keys.proofs.Choosing.{chosen_first, chosen_none}
use Rattle.glk_keys.specs.Choices.{Defines, IsChosen, IsLeastStrong, IsGreatestStrong, SizesFit}
use Rattle.glk_keys.specs.Definitions.{object_definition, size_at}
use Rattle.glk_keys.specs.KeyLaws.{long_row_keys, nth_number, nth_vote}
use Rattle.glk_keys.specs.KeyNumbers.{keys_of, keys_long}
use Rattle.glk_keys.specs.Keys.{row_keys, key_id}
use Rattle.glk_keys.specs.Programs.{Program}
use Rattle.glk_keys.specs.Rows.{row_at, row_count, row_limit}
use Rattle.glk_keys.specs.Votes.{votes_of, vote_by, class_of, is_strong_class}

some_vote : (x y : Vote) → Some x ≡ Some y → x ≡ y
some_vote x y e = ap (λ (o : Option Vote). option_map_or (λ (z : Vote). z) o x) e

-- who votes is a definition, by the rank of its class
record IsVoteOf (o : Option RankClass) (size r : ℕ) (v : Vote) : Type 0 where
  class : RankClass
  class_is : o ≡ Some class
  rank_is : v.rank ≡ rank_of class size r
  strong_is : v.strong ≡ is_strong_class class

voted_by : (o : Option RankClass) (size r : ℕ) (v : Vote) → vote_by o size r ≡ Some v → IsVoteOf o size r v
voted_by (Some c) size r v e = record { class = c; class_is = refl; rank_is = sym (ap (λ (z : Vote). z.rank) (some_vote _ v e)); strong_is = sym (ap (λ (z : Vote). z.strong) (some_vote _ v e)) }
voted_by None size r v e = absurd (true≢false (ap (λ (o : Option Vote). option_map_or (λ (z : Vote). true) o false) (sym e)))

strong_only : (c : RankClass) → is_strong_class c ≡ true → c ≡ Strong
strong_only Strong e = refl
strong_only Shared e = absurd (true≢false (sym e))
strong_only Other e = absurd (true≢false (sym e))

module _ (p : Program) (few : row_count p ≤ row_limit) (id : ℕ) (h : id < row_count p) where
  -- a vote for the key of row id, as a definition
  record IsVoter (a : ℕ) (v : Vote) : Type 0 where
    class : RankClass
    defines : Defines p (key_id p id) a class
    rank_is : v.rank ≡ rank_of class (size_at p a) a
    strong_is : v.strong ≡ is_strong_class class

  voter : (a : ℕ) (v : Vote) → VotesFor (keys_of p) (votes_of p) id a v → IsVoter a v
  voter a v f =
      let l = long_row_keys p in
      let b = keys_long (row_keys p) in
      let inside = f.0.0 in
      let ha : a < row_count p = omega arith in
      let by = voted_by (class_of (row_at p a)) (size_at p a) a v (sym (nth_vote p a ha) ∙ f.1) in
      record {
        class = by.class;
        defines = record { row = ha; of_key = sym (nth_number p a ha) ∙ f.0.1 ∙ nth_number p id h; class_is = by.class_is };
        rank_is = by.rank_is;
        strong_is = by.strong_is;
      }

  votes : (q : ℕ) (d : RankClass) → Defines p (key_id p id) q d → VotesFor (keys_of p) (votes_of p) id q (record { rank = rank_of d (size_at p q) q; strong = is_strong_class d })
  votes q d f =
      let l = long_row_keys p in
      let b = keys_long (row_keys p) in
      let hq = f.row in
      ((omega arith, nth_number p q hq ∙ f.of_key ∙ sym (nth_number p id h)), nth_vote p q hq ∙ ap (λ (o : Option RankClass). vote_by o (size_at p q) q) f.class_is)

  -- the least rank is that of the definition that is before all others
  first_chosen : (rank : ℕ) → IsLeastRankOf (keys_of p) (votes_of p) id (Some rank) → IsChosen p (key_id p id) (Some (id_in rank))
  first_chosen rank l =
      let by = voter l.0.0 l.0.1 l.0.2 in
      let a = l.0.0 in
      let c = by.class in
      let size = size_at p a in
      let small : a < 2 ^ 30 = let r = by.defines.row in omega arith in
      let order = rank_in_order c size a small in
      let is_rank : rank ≡ rank_of c size a = sym l.0.3 ∙ by.rank_is in
      let same : id_in rank ≡ a = ap id_in is_rank ∙ order.has_id in
      let P : ℕ → Type 0 = λ i. IsChosen p (key_id p id) (Some i) in
      subst P (sym same) (
        c,
        by.defines,
        λ q d f.
            let t = size_at p q in
            let low : rank_of c size a ≤ rank_of d t q = let m = l.1 q _ (votes q d f) in omega (arith, m, is_rank) in
            let smallq : q < 2 ^ 30 = let r = f.row in omega arith in
            elim (cases_lt (rank_of c size a) (rank_of d t q)) [
              | inl lt ↦ inr ((order.is_before d t q smallq).0 lt)
              | inr ge ↦
                  let e : rank_of c size a ≡ rank_of d t q = omega (arith, low, ge) in
                  inl (sym order.has_id ∙ ap id_in e ∙ (rank_in_order d t q smallq).has_id)
            ],
      )

  -- the chosen definition in objects, by the least rank
  pub chosen_by_rank : SizesFit p → (least : Option ℕ) → IsLeastRankOf (keys_of p) (votes_of p) id least → object_definition p (key_id p id) ≡ option_map id_in least
  chosen_by_rank fits (Some rank) l = chosen_first p (key_id p id) fits (id_in rank) (first_chosen rank l)
  chosen_by_rank fits None l = chosen_none p (key_id p id) fits (λ q d f. l q _ (votes q d f))

  -- Strong definitions.

  pub greatest_of : (g : ℕ) → IsGreatestOf (keys_of p) (votes_of p) id (Some g) → IsGreatestStrong p (key_id p id) g
  greatest_of g l =
      let by = voter g l.0.0 l.0.1 in
      let P : RankClass → Type 0 = λ c. Defines p (key_id p id) g c in
      record {
        strong = subst P (strong_only by.class (sym by.strong_is ∙ l.0.2)) by.defines;
        greatest = λ q f. l.1 q _ (votes q Strong f) refl;
      }

  pub none_strong : IsGreatestOf (keys_of p) (votes_of p) id None → (q : ℕ) → Defines p (key_id p id) q Strong → ⊥
  none_strong l q f = l q _ (votes q Strong f) refl

  pub none_at_all : IsLeastRankOf (keys_of p) (votes_of p) id None → (q : ℕ) → Defines p (key_id p id) q Strong → ⊥
  none_at_all l q f = l q _ (votes q Strong f)

  -- a strong definition has its load position as its rank, and no other has so low a rank
  strong_rank : (size a : ℕ) → rank_of Strong size a ≡ a
  strong_rank size a = omega arith

  by_class : (c : RankClass) (a rank : ℕ) → rank ≡ rank_of c (size_at p a) a → Defines p (key_id p id) a c → ((q : ℕ) → Defines p (key_id p id) q Strong → rank ≤ q) → IsLeastStrong p (key_id p id) rank ⊎ ((q : ℕ) → Defines p (key_id p id) q Strong → ⊥)
  by_class Strong a rank e f low =
      let same : a ≡ rank = sym (e ∙ strong_rank (size_at p a) a) in
      let P : ℕ → Type 0 = λ i. Defines p (key_id p id) i Strong in
      inl (record { strong = subst P same f; least = low })
  by_class Shared a rank e f low = inr (λ q g. let m = low q g in let r = g.row in omega arith)
  by_class Other a rank e f low = inr (λ q g. let m = low q g in let r = g.row in omega arith)

  -- the least rank is that of the least strong definition, or there is none
  pub least_of : (rank : ℕ) → IsLeastRankOf (keys_of p) (votes_of p) id (Some rank) → IsLeastStrong p (key_id p id) rank ⊎ ((q : ℕ) → Defines p (key_id p id) q Strong → ⊥)
  least_of rank l =
      let by = voter l.0.0 l.0.1 l.0.2 in
      let a = l.0.0 in
      let is_rank : rank ≡ rank_of by.class (size_at p a) a = sym l.0.3 ∙ by.rank_is in
      let low : (q : ℕ) → Defines p (key_id p id) q Strong → rank ≤ q = λ q f.
      let m = l.1 q _ (votes q Strong f) in
      let e = strong_rank (size_at p q) q in
      omega (arith, m, e) in
      by_class by.class a rank is_rank by.defines low

  low_class : (c : RankClass) (a rank : ℕ) → rank < 2 ^ 62 → rank ≡ rank_of c (size_at p a) a → Defines p (key_id p id) a c → Defines p (key_id p id) rank Strong
  low_class Strong a rank small e f =
      let same : a ≡ rank = sym (e ∙ strong_rank (size_at p a) a) in
      let P : ℕ → Type 0 = λ i. Defines p (key_id p id) i Strong in
      subst P same f
  low_class Shared a rank small e f = absurd (omega arith)
  low_class Other a rank small e f = absurd (omega arith)

  -- a least rank below those of all other classes is that of the least strong definition
  pub least_strong_of : (rank : ℕ) → rank < 2 ^ 62 → IsLeastRankOf (keys_of p) (votes_of p) id (Some rank) → IsLeastStrong p (key_id p id) rank
  least_strong_of rank small l =
      let by = voter l.0.0 l.0.1 l.0.2 in
      let a = l.0.0 in
      let is_rank : rank ≡ rank_of by.class (size_at p a) a = sym l.0.3 ∙ by.rank_is in
      record {
        strong = low_class by.class a rank small is_rank by.defines;
        least = λ q f.
            let m = l.1 q _ (votes q Strong f) in
            let e = strong_rank (size_at p q) q in
            omega (arith, m, e);
      }
