-- What the cuts of a word say of it.
use Rattle.std.proofs.Common.{◌≡◌, ◌≢◌, ℕ, List, [], ◌∷◌, Option, Some, None, MatchOption, Bor, refl, arith}
use Rattle.glk_base.specs.Flags.{after_dash}

no_dash : (b : ℕ) (rest : List ℕ) → (b ≡ 45 → ⊥) → after_dash (b ∷ rest) ≡ None
unfolding after_dash
no_dash b rest apart = grind (arith, apart)

pub dash_cut : (text : List ℕ) (r : Option (Bor (List ℕ))) → MatchOption r ((rest : List ℕ) → text ≢ 45 ∷ rest) (λ x. text ≡ 45 ∷ x.now) → MatchOption r (after_dash text ≡ None) (λ x. after_dash text ≡ Some x.now)
unfolding after_dash
dash_cut text (Some x) h = rw h refl
dash_cut [] None h = refl
dash_cut (b ∷ rest) None h = no_dash b rest (λ is. h rest (rw is refl))
