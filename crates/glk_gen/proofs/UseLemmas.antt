-- Numbers in the order of their first use.
use Rattle.std.proofs.Common.{◌≡◌, ◌∙◌, ℕ, ◌+◌, ◌<◌, List, [], ◌∷◌, ◌++◌, length, take, get_or, map, refl, ap, sym}
use Rattle.std.specs.Prelude.{filter, Bool}
use Rattle.std.proofs.lemmas.List.{take_more, map-append}
use Rattle.std.proofs.lemmas.List.Elements.{filter-append}
use Rattle.glk_gen.specs.Uses.{with_use, with_uses, first_uses}

-- numbers that come after others
with_uses-append : (used xs ys : List ℕ) → with_uses used (xs ++ ys) ≡ with_uses (with_uses used xs) ys
unfolding with_uses
with_uses-append used [] ys = refl
with_uses-append used (x ∷ xs) ys = with_uses-append (with_use used x) xs ys

-- one more item
pub first_uses_more : (p : ℕ → Bool) (f : ℕ → ℕ) (xs : List ℕ) (i d : ℕ) (before after : List ℕ) → i < length xs → before ≡ first_uses (filter p (map f (take i xs)))
    → after ≡ with_uses before (filter p (f (get_or xs i d) ∷ [])) → after ≡ first_uses (filter p (map f (take (i + 1) xs)))
first_uses_more p f xs i d before after inside e more =
    let all : filter p (map f (take (i + 1) xs)) ≡ filter p (map f (take i xs)) ++ filter p (f (get_or xs i d) ∷ []) =
    ap (λ ys. filter p (map f ys)) (take_more xs i d inside) ∙ ap (filter p) (map-append f (take i xs) (get_or xs i d ∷ [])) ∙ filter-append p (map f (take i xs)) (f (get_or xs i d) ∷ []) in
    more ∙ ap (λ ys. with_uses ys (filter p (f (get_or xs i d) ∷ []))) e ∙ sym (with_uses-append [] (filter p (map f (take i xs))) (filter p (f (get_or xs i d) ∷ []))) ∙ ap first_uses (sym all)
