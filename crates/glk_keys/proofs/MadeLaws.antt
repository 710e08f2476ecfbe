-- The number of a made name in the code's table.
use Rattle.std.proofs.Common.{◌≡◌, ℕ, ◌+◌, ◌<◌, ◌≤◌, List, [], ◌∷◌, map, length, refl, sym, ap, ◌∙◌, subst, cond, Some, None, arith, ltb}
use Rattle.std.specs.Prelude.{Bool, not}
use Rattle.std.specs.List.{position, position_or_len, prefix_len}
use Rattle.std.specs.Str.{bytes_eq}
use Rattle.glk_base.proofs.Groups.{lt_true, lt_false}
use Rattle.glk_keys.specs.MadeNames.{MadeName, made_names, made_count}
use Rattle.glk_keys.specs.MadeViews.{made_view}
use Rattle.glk_keys.specs.RowLaws.{count_made}
use Rattle.glk_keys.specs.declared.made_names.MadeName.{MadeName as MadeEntry}

prefix-map : (q : MadeName → Bool) (xs : List MadeEntry) → prefix_len q (map made_view xs) ≡ prefix_len (λ x. q (made_view x)) xs
prefix-map q [] = refl
prefix-map q (x ∷ xs) = ap (λ n. cond (q (made_view x)) (1 + n) 0) (prefix-map q xs)

position-map : (p : MadeName → Bool) (xs : List MadeEntry) → position_or_len p (map made_view xs) ≡ position_or_len (λ x. p (made_view x)) xs
position-map p xs = prefix-map (λ m. not (p m)) xs

module _ (table : List MadeEntry) (same : map made_view table ≡ made_names) (name : List ℕ) (k : ℕ) (is : k ≡ position_or_len (λ m. bytes_eq name m.name.now) table) where
  place_is : position_or_len (λ m. bytes_eq name m.name) made_names ≡ k
  place_is = ap (λ (l : List MadeName). position_or_len (λ m. bytes_eq name m.name) l) (sym same) ∙ position-map (λ m. bytes_eq name m.name) table ∙ sym is

  pub number_found : k < made_count → Some k ≡ position (λ m. bytes_eq name m.name) made_names
  number_found h =
      let P : ℕ → Type 0 = λ n. Some k ≡ cond (ltb n (length made_names)) (Some n) None in
      let counted = count_made in
      let inside : k < length made_names = omega arith in
      subst P (sym place_is) (rw (lt_true k (length made_names) inside) refl)

  pub number_missed : made_count ≤ k → None ≡ position (λ m. bytes_eq name m.name) made_names
  number_missed h =
      let P : ℕ → Type 0 = λ n. None ≡ cond (ltb n (length made_names)) (Some n) None in
      let counted = count_made in
      let outside : length made_names ≤ k = omega arith in
      subst P (sym place_is) (rw (lt_false k (length made_names) outside) refl)
