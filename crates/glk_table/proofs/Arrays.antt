-- The arrays of a closed table grow by an item for each place.
use Rattle.std.proofs.Common.{◌≡◌, ℕ, zero, suc, ◌+◌, ◌<◌, List, [], ◌∷◌, ◌++◌, refl, sym, ap, ◌∙◌, subst, arith}
use Rattle.std.specs.Prelude.{slice_index, slice_index_or}
use Rattle.std.proofs.lemmas.List.{get_or_append_left, length-append}
use Rattle.std.proofs.Math.Seq.{get_or-append_seam}
use mathlib.Core.Option.{some, some-injective, some-ne-none}
use mathlib.Core.Logic.{dite}
use native.Mathlib.Decide.{dec_lt}
use lib.ListN.{get_elem?}
use Rattle.glk_table.specs.Elections.{AreMade}

pub none_made : {X : Type 0} (f : ℕ → X) (words : List ℕ) (from : ℕ) (d : X) → AreMade f words from 0 d []
none_made f words from d = record { long = refl; each = λ p h. absurd (omega (arith, h)) }

word_at : (l : List ℕ) (i x : ℕ) → get_elem? l i ≡ some x → x ≡ slice_index l i
word_at [] i x e = absurd (some-ne-none x (sym e))
word_at (y ∷ ys) zero x e = sym (some-injective y x e)
word_at (y ∷ ys) (suc i) x e = word_at ys i x e

pub one_made : {X : Type 0} (f : ℕ → X) (words : List ℕ) (from n : ℕ) (d : X) (xs : List X) (w at : ℕ) (x : X)
    → AreMade f words from n d xs → at ≡ from + n → get_elem? words at ≡ some w → x ≡ f w → AreMade f words from (n + 1) d (xs ++ x ∷ [])
one_made f words from n d xs w at x made is word item =
    let last : slice_index_or (xs ++ x ∷ []) n d ≡ f (slice_index words (from + n)) =
    subst (λ k. slice_index_or (xs ++ x ∷ []) k d ≡ f (slice_index words (from + n))) made.long
    (get_or-append_seam xs x [] d ∙ (item ∙ ap f (word_at words at w word ∙ ap (slice_index words) is))) in
    record {
      long = let all = length-append xs (x ∷ []) in let long = made.long in omega arith;
      each = λ p h.
          dite (dec_lt p n)
          (λ (lt : p < n). let long = made.long in get_or_append_left xs (x ∷ []) d p (omega arith) ∙ made.each p lt)
          (λ ge. let same : n ≡ p = omega arith in subst (λ k. slice_index_or (xs ++ x ∷ []) k d ≡ f (slice_index words (from + k))) same last);
    }
