-- Lines of which each can be told to be good or bad: all are good, or there is a first bad one.
use Rattle.std.proofs.Common.{◌≡◌, ◌<◌, ◌⊎◌, inl, inr, ℕ, List, length, refl, arith}
use Rattle.glk_base.specs.Lines.{line_number, AllGood, IsFirstBad}
use Rattle.glk_package.proofs.Decided.{IsDecided, all_of, negated, below, HasLeast, least_below}

module _ (ls : List (List ℕ)) (Good : ℕ → Type 0) (each : (k : ℕ) → IsDecided (Good k)) where
  good : (k : ℕ) → ((Good k → ⊥) → ⊥) → Good k
  good k twice = elim (each k) [ inl is ↦ is | inr bad ↦ absurd (twice bad) ]

  turn : HasLeast (λ k. (k < length ls) × (Good k → ⊥)) → AllGood ls Good ⊎ ((number : ℕ) × IsFirstBad ls Good number)
  turn (inr none) = inl (λ k inside. good k (λ bad. none k (inside, bad)))
  turn (inl (k, l)) = inr (
    line_number k,
    record {
      line = k;
      inside = l.holds.0;
      before = λ j less. good j (λ bad. let low = l.least j (omega (arith, less, l.holds.0), bad) in omega (arith, low, less));
      bad = l.holds.1;
      number_is = refl;
    },
  )

  pub good_or_bad : AllGood ls Good ⊎ ((number : ℕ) × IsFirstBad ls Good number)
  good_or_bad = turn (least_below (length ls) (λ k. (k < length ls) × (Good k → ⊥)) (λ k. all_of _ _ (below k (length ls)) (negated _ (each k))) (λ k h. h.0))
