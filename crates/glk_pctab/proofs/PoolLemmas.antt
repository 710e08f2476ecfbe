-- Byte strings of first use: one more, and the offset of one.
use Rattle.std.proofs.Common.{◌≡◌, ◌∙◌, ℕ, ◌+◌, ◌-◌, ◌^◌, ◌<◌, ◌≤◌, min, List, [], ◌∷◌, ◌++◌, length, Bool, true, false, cond, Option, Some, None, refl, sym, ap, subst, arith, append_assoc, length-append}
use Rattle.std.specs.Prelude.{unwrap_or}
use Rattle.std.proofs.lemmas.List.{append-nil, map-append}
use Rattle.std.proofs.lemmas.Map.Text.{hash_map_updates_str}
use Rattle.std.specs.HashMap.{HashMap, get_by, UpdatesBy}
use Rattle.std.specs.Str.{bytes_eq}
use denote.Ref.{Bor}
use Rattle.glk_pctab.specs.FirstUse.{is_among, with_first, with_each, concat_of, offset_in}
use Rattle.glk_pctab.specs.Contents.{Contents, with_all, clamped, Fits}
use Rattle.glk_pctab.specs.Views.{texts_of}
use Rattle.glk_pctab.proofs.FirstUseLemmas.{bytes_same, bytes_itself}

none_false : (b : Bool) (n : ℕ) → cond b (Some n) None ≡ None → b ≡ false
none_false true n is = let bad : Some n ≡ None = is in cc
none_false false n is = refl

some_true : (b : Bool) (n at : ℕ) → cond b (Some n) None ≡ Some at → b ≡ true
some_true true n at is = refl
some_true false n at is = let bad : None ≡ Some at = is in cc

module _ (mark : List ℕ) where
  pub concat_push : (xs : List (List ℕ)) (q : List ℕ) → concat_of mark (xs ++ q ∷ []) ≡ concat_of mark xs ++ (q ++ mark)
  unfolding concat_of
  concat_push [] q = append-nil (q ++ mark)
  concat_push (x ∷ xs) q = ap (λ r. (x ++ mark) ++ r) (concat_push xs q) ∙ sym (append_assoc (x ++ mark) (concat_of mark xs) (q ++ mark))

  either_true : (b t : Bool) → cond b true t ≡ false → (b ≡ false) × (t ≡ false)
  either_true true t is = let bad : true ≡ false = is in (cc, cc)
  either_true false t is = (refl, is)

  -- the offset of a byte string that is not there is the end
  pub offset_absent : (xs : List (List ℕ)) (q : List ℕ) → is_among xs q ≡ false → offset_in mark xs q ≡ length (concat_of mark xs)
  unfolding is_among concat_of offset_in
  offset_absent [] q is = refl
  offset_absent (x ∷ xs) q is =
      let both = either_true (bytes_eq x q) (is_among xs q) is in
      rw both.0 (omega (arith, offset_absent xs q both.1, length-append (x ++ mark) (concat_of mark xs), length-append x mark))

  offset_le_by : (b : Bool) (l n m : ℕ) → n ≤ m → cond b 0 (l + n) ≤ l + m
  offset_le_by true l n m h = omega arith
  offset_le_by false l n m h = omega arith

  pub offset_le : (xs : List (List ℕ)) (q : List ℕ) → offset_in mark xs q ≤ length (concat_of mark xs)
  unfolding concat_of offset_in
  offset_le [] q = omega arith
  offset_le (x ∷ xs) q =
      let size = length-append (x ++ mark) (concat_of mark xs) in
      let first = length-append x mark in
      let h = offset_le_by (bytes_eq x q) (length x + length mark) (offset_in mark xs q) (length (concat_of mark xs)) (offset_le xs q) in
      omega (arith, h, size, first)

  push_by : (b t e : Bool) → cond b true (cond t true e) ≡ cond (cond b true t) true e
  push_by true t e = refl
  push_by false t e = refl

  last_by : (e : Bool) → cond e true false ≡ cond false true e
  last_by true = refl
  last_by false = refl

  pub among_push : (xs : List (List ℕ)) (q p : List ℕ) → is_among (xs ++ q ∷ []) p ≡ cond (is_among xs p) true (bytes_eq q p)
  unfolding is_among
  among_push [] q p = last_by (bytes_eq q p)
  among_push (x ∷ xs) q p = ap (λ r. cond (bytes_eq x p) true r) (among_push xs q p) ∙ push_by (bytes_eq x p) (is_among xs p) (bytes_eq q p)

  stays_by : (b t : Bool) (l m n : ℕ) → cond b true t ≡ true → (t ≡ true → m ≡ n) → cond b 0 (l + m) ≡ cond b 0 (l + n)
  stays_by true t l m n is h = refl
  stays_by false t l m n is h = ap (λ k. l + k) (h is)

  -- a byte string stays where it is
  pub offset_stays : (xs ys : List (List ℕ)) (p : List ℕ) → is_among xs p ≡ true → offset_in mark (xs ++ ys) p ≡ offset_in mark xs p
  unfolding is_among offset_in
  offset_stays [] ys p is = let bad : false ≡ true = is in cc
  offset_stays (x ∷ xs) ys p is = stays_by (bytes_eq x p) (is_among xs p) (length x + length mark) (offset_in mark (xs ++ ys) p) (offset_in mark xs p) is (λ h. offset_stays xs ys p h)

  offset_here_by : (b t : Bool) (l m n : ℕ) → cond b true t ≡ false → (t ≡ false → m ≡ n) → cond b 0 (l + m) ≡ l + n
  offset_here_by true t l m n is h = let bad : true ≡ false = is in cc
  offset_here_by false t l m n is h = ap (λ k. l + k) (h is)

  -- a new byte string is at the end
  pub offset_new : (xs : List (List ℕ)) (q : List ℕ) → is_among xs q ≡ false → offset_in mark (xs ++ q ∷ []) q ≡ length (concat_of mark xs)
  unfolding is_among concat_of offset_in
  offset_new [] q is = rw (bytes_itself q) refl
  offset_new (x ∷ xs) q is =
      let size : length x + length mark + length (concat_of mark xs) ≡ length ((x ++ mark) ++ concat_of mark xs) = omega (arith, length-append (x ++ mark) (concat_of mark xs), length-append x mark) in
      offset_here_by (bytes_eq x q) (is_among xs q) (length x + length mark) (offset_in mark (xs ++ q ∷ []) q) (length (concat_of mark xs)) is (λ h. offset_new xs q h) ∙ size

  merged : (e t : Bool) (size n m : ℕ) → (e ≡ true → (t ≡ false) × (size ≡ m)) → (t ≡ true → n ≡ m)
      → cond e (Some size) (cond t (Some n) None) ≡ cond (cond t true e) (Some m) None
  merged true true size n m h g = let bad : true ≡ false = (h refl).0 in cc
  merged true false size n m h g = ap (λ k. Some k) (h refl).1
  merged false true size n m h g = ap (λ k. Some k) (g refl)
  merged false false size n m h g = refl

  pub at_more : {S : Type 0} (m n : HashMap (Bor (List ℕ)) ℕ S) (xs : List (List ℕ)) (q : List ℕ) (size : ℕ)
      → Fits mark xs m size → is_among xs q ≡ false
      → UpdatesBy (λ x y. bytes_eq x.now y.now) (λ k. bytes_eq q k.now) m n (Some size)
      → (p : List ℕ) → get_by (λ k. bytes_eq p k.now) n ≡ cond (is_among (xs ++ q ∷ []) p) (Some (clamped (offset_in mark (xs ++ q ∷ []) p))) None
  at_more m n xs q size fits none updates p =
      hash_map_updates_str q m n (Some size) updates p ∙ ap (λ r. cond (bytes_eq q p) (Some size) r) (fits.at p)
      ∙ merged (bytes_eq q p) (is_among xs p) size (clamped (offset_in mark xs p)) (clamped (offset_in mark (xs ++ q ∷ []) p))
      (λ same.
      let e : q ≡ p = bytes_same q p same in (
        subst (λ (k : List ℕ). is_among xs k ≡ false) e none,
        fits.size_is ∙ ap clamped (sym (offset_new xs q none)) ∙ ap (λ (k : List ℕ). clamped (offset_in mark (xs ++ q ∷ []) k)) e,
      ))
      (λ there. ap clamped (sym (offset_stays xs (q ∷ []) p there)))
      ∙ ap (λ t. cond t (Some (clamped (offset_in mark (xs ++ q ∷ []) p))) None) (sym (among_push xs q p))

  pub size_more : (xs : List (List ℕ)) (q : List ℕ) (size middle more : ℕ) → size ≡ clamped (length (concat_of mark xs)) → middle ≡ min (size + length q) (2 ^ 64 - 1) → more ≡ min (middle + length mark) (2 ^ 64 - 1)
      → more ≡ clamped (length (concat_of mark (xs ++ q ∷ [])))
  size_more xs q size middle more e first second = omega (arith, e, first, second, ap length (concat_push xs q), length-append (concat_of mark xs) (q ++ mark), length-append q mark)

  pub texts_push : (now reserved elements : List (Bor (List ℕ))) (e : Bor (List ℕ)) → now ≡ reserved ++ e ∷ [] → reserved ≡ elements → texts_of now ≡ texts_of elements ++ e.now ∷ []
  texts_push now reserved elements e pushed same = ap texts_of pushed ∙ ap (λ (s : List (Bor (List ℕ))). texts_of (s ++ e ∷ [])) same ∙ map-append (λ (b : Bor (List ℕ)). b.now) elements (e ∷ [])

  -- a byte string that is noted nowhere is not there
  pub not_noted : {S : Type 0} (m : HashMap (Bor (List ℕ)) ℕ S) (xs : List (List ℕ)) (q : List ℕ) (size : ℕ) → Fits mark xs m size → None ≡ get_by (λ k. bytes_eq q k.now) m → is_among xs q ≡ false
  not_noted m xs q size fits none = none_false (is_among xs q) (clamped (offset_in mark xs q)) (sym (fits.at q) ∙ sym none)

  pub noted : {S : Type 0} (m : HashMap (Bor (List ℕ)) ℕ S) (xs : List (List ℕ)) (q : List ℕ) (size at : ℕ) → Fits mark xs m size → Some at ≡ get_by (λ k. bytes_eq q k.now) m → is_among xs q ≡ true
  noted m xs q size at fits some = some_true (is_among xs q) (clamped (offset_in mark xs q)) at (sym (fits.at q) ∙ sym some)

  pub fits_more : {S : Type 0} (m n : HashMap (Bor (List ℕ)) ℕ S) (xs ys : List (List ℕ)) (q : List ℕ) (size middle more : ℕ)
      → Fits mark xs m size → None ≡ get_by (λ k. bytes_eq q k.now) m → ys ≡ xs ++ q ∷ []
      → UpdatesBy (λ x y. bytes_eq x.now y.now) (λ k. bytes_eq q k.now) m n (Some size) → middle ≡ min (size + length q) (2 ^ 64 - 1) → more ≡ min (middle + length mark) (2 ^ 64 - 1) → Fits mark ys n more
  fits_more m n xs ys q size middle more fits none e updates first second =
      let P : List (List ℕ) → Type 0 = λ zs. Fits mark zs n more in
      subst P (sym e) (record { at = at_more m n xs q size fits (not_noted m xs q size fits none) updates; size_is = size_more xs q size middle more fits.size_is first second })

  value_by : (b : Bool) (n size : ℕ) → (b ≡ false → size ≡ n) → unwrap_or (cond b (Some n) None) size ≡ n
  value_by true n size h = refl
  value_by false n size h = h refl

  -- the offset that is noted, or the end
  pub offset_value : {S : Type 0} (m : HashMap (Bor (List ℕ)) ℕ S) (xs : List (List ℕ)) (q : List ℕ) (size : ℕ) → Fits mark xs m size
      → unwrap_or (get_by (λ k. bytes_eq q k.now) m) size ≡ clamped (offset_in mark xs q)
  offset_value m xs q size fits =
      ap (λ (r : Option ℕ). unwrap_or r size) (fits.at q)
      ∙ value_by (is_among xs q) (clamped (offset_in mark xs q)) size (λ none. fits.size_is ∙ ap clamped (sym (offset_absent xs q none)))

  pub offset_exact : (xs : List (List ℕ)) (q : List ℕ) → length (concat_of mark xs) < 2 ^ 32 → clamped (offset_in mark xs q) ≡ offset_in mark xs q
  offset_exact xs q small = omega (arith, offset_le xs q)

  pub first_old : (xs : List (List ℕ)) (q : List ℕ) → is_among xs q ≡ true → xs ≡ with_each xs (q ∷ [])
  unfolding with_each with_first
  first_old xs q is = rw is refl

  pub first_new : (xs : List (List ℕ)) (q : List ℕ) → is_among xs q ≡ false → xs ++ q ∷ [] ≡ with_each xs (q ∷ [])
  unfolding with_each with_first
  first_new xs q is = rw is refl

  -- a pool with these byte strings
  pub pool_old : (p : Contents) (xs : List (List ℕ)) (q : List ℕ) → record { mark = mark; elements = xs } ≡ p → is_among xs q ≡ true → p ≡ with_all p (q ∷ [])
  pool_old p xs q view is =
      let P : Contents → Type 0 = λ c. c ≡ with_all c (q ∷ []) in
      subst P view (ap (λ (ys : List (List ℕ)). let c : Contents = record { mark = mark; elements = ys } in c) (first_old xs q is))

  pub pool_new : (p : Contents) (xs ys : List (List ℕ)) (q : List ℕ) → record { mark = mark; elements = xs } ≡ p → ys ≡ xs ++ q ∷ [] → is_among xs q ≡ false → record { mark = mark; elements = ys } ≡ with_all p (q ∷ [])
  pool_new p xs ys q view pushed is =
      let P : Contents → Type 0 = λ c. record { mark = mark; elements = ys } ≡ with_all c (q ∷ []) in
      subst P view (ap (λ (zs : List (List ℕ)). let c : Contents = record { mark = mark; elements = zs } in c) (pushed ∙ first_new xs q is))
