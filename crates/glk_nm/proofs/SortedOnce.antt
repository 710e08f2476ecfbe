-- There is one order in which a list is sorted and its ties are as before.
use Rattle.std.proofs.Common.{◌≡◌, suc, List, [], ◌∷◌, Bool, true, false, cond, refl, sym, subst, arith, add-one}
use Rattle.std.specs.Prelude.{filter}
use Rattle.std.specs.List.{Contains}
use Rattle.std.specs.Cmp.{IsStrictWeakOrder}
use Rattle.std.specs.List.Sorted.{IsSortedBy, ties}
use Rattle.std.proofs.lemmas.List.Sorted.{sorted_far}

-- what passes a test in a list is in the list
in_list : {X : Type 0} (p : X → Bool) (x : X) (rest ys : List X) → x ∷ rest ≡ filter p ys → Contains ys x
in_list p x rest [] e = cc
in_list {X} p x rest (y ∷ ys) e =
    elim (p y) as (λ b. x ∷ rest ≡ cond b (y ∷ filter p ys) (filter p ys) → Contains (y ∷ ys) x) [
      | true ↦ λ h. let same : y ≡ x = cc in (0, omega arith, same)
      | false ↦ λ h. let at = in_list p x rest ys h in (suc at.0, omega (arith, at.1), at.2)
    ] e

module _ {X : Type 0} (lt : X → X → Bool) (o : IsStrictWeakOrder lt) where
  not_itself : (x : X) → lt x x ≡ false
  not_itself x =
      elim (lt x x) as (λ b. lt x x ≡ b → b ≡ false) [ true ↦ λ h. let k = o.one_way x x h in cc | false ↦ λ h. refl ] refl

  tied_itself : (x : X) → ties lt x x ≡ true
  tied_itself x = rw (not_itself x) refl

  -- what is in a sorted list is not below its head
  not_below_head : (x y : X) (ys : List X) → IsSortedBy lt (y ∷ ys) → Contains (y ∷ ys) x → lt x y ≡ false
  not_below_head x y ys up at =
      subst (λ (z : X). lt z y ≡ false) at.2 (sorted_far lt o (y ∷ ys) up 0 at.0 x (omega arith) at.1)

  -- the head of a list is in another with the same ties
  head_in : (x : X) (xs ys : List X) → filter (ties lt x) (x ∷ xs) ≡ filter (ties lt x) ys → Contains ys x
  head_in x xs ys e =
      let whole : x ∷ filter (ties lt x) xs ≡ filter (ties lt x) ys =
      subst (λ (b : Bool). cond b (x ∷ filter (ties lt x) xs) (filter (ties lt x) xs) ≡ filter (ties lt x) ys) (tied_itself x) e in
      in_list (ties lt x) x (filter (ties lt x) xs) ys whole

  -- the heads of two sorted lists with the same ties are one
  same_head : (x y : X) (xs ys : List X) → IsSortedBy lt (x ∷ xs) → IsSortedBy lt (y ∷ ys)
      → ((z : X) → filter (ties lt z) (x ∷ xs) ≡ filter (ties lt z) (y ∷ ys)) → x ≡ y
  same_head x y xs ys up_x up_y e =
      let x_y : lt x y ≡ false = not_below_head x y ys up_y (head_in x xs (y ∷ ys) (e x)) in
      let y_x : lt y x ≡ false = not_below_head y x xs up_x (head_in y ys (x ∷ xs) (sym (e y))) in
      let tied : ties lt x y ≡ true = rw (x_y, y_x) refl in
      let h : x ∷ filter (ties lt x) xs ≡ y ∷ filter (ties lt x) ys =
      subst (λ (b : Bool). x ∷ filter (ties lt x) xs ≡ cond b (y ∷ filter (ties lt x) ys) (filter (ties lt x) ys)) tied
      (subst (λ (b : Bool). cond b (x ∷ filter (ties lt x) xs) (filter (ties lt x) xs) ≡ filter (ties lt x) (y ∷ ys)) (tied_itself x) (e x)) in
      cc

  tail_sorted : (x : X) (xs : List X) → IsSortedBy lt (x ∷ xs) → IsSortedBy lt xs
  tail_sorted x xs up k d low high =
      let h = up (suc k) d (omega arith) (omega arith) in
      rw add-one (rw add-one at h)

  same_tails : (b : Bool) (x : X) (xs ys : List X) → cond b (x ∷ xs) xs ≡ cond b (x ∷ ys) ys → xs ≡ ys
  same_tails true x xs ys e = cc
  same_tails false x xs ys e = e

  pub sorted_once : (xs ys : List X) → IsSortedBy lt xs → IsSortedBy lt ys → ((z : X) → filter (ties lt z) xs ≡ filter (ties lt z) ys) → xs ≡ ys
  sorted_once [] [] up_x up_y e = refl
  sorted_once [] (y ∷ ys) up_x up_y e = absurd (omega (arith, (head_in y ys [] (sym (e y))).1))
  sorted_once (x ∷ xs) [] up_x up_y e = absurd (omega (arith, (head_in x xs [] (e x)).1))
  sorted_once (x ∷ xs) (y ∷ ys) up_x up_y e =
      let head : x ≡ y = same_head x y xs ys up_x up_y e in
      let tails = λ (z : X).
      same_tails (ties lt z x) x (filter (ties lt z) xs) (filter (ties lt z) ys)
      (subst (λ (w : X). filter (ties lt z) (x ∷ xs) ≡ cond (ties lt z w) (w ∷ filter (ties lt z) ys) (filter (ties lt z) ys)) (sym head) (e z)) in
      let rest = sorted_once xs ys (tail_sorted x xs up_x) (tail_sorted y ys up_y) tails in
      cc
