-- Lists of paths: whether a path is among them, and where it stands.
use Rattle.std.proofs.Common.{◌≡◌, ◌<◌, ◌≤◌, ◌+◌, ◌||◌, ◌∷◌, [], ℕ, Bool, true, false, List, length, get_or, map, cond, refl, ap, sym, ◌∙◌, arith, Option, Some, None, not, nat_lt, zero, suc, take, ◌&&◌, drop, drop-cons, add-one}
use Rattle.std.specs.List.{list_any, find, position, prefix_len, position_or_len}
use Rattle.std.proofs.lemmas.List.{length-map}
use Rattle.std.proofs.Math.Seq.{take-nil}
use Rattle.std.proofs.Math.ListN.{drop_of_length-le}
use Rattle.std.proofs.lemmas.Bool.Decides.{nat_tests}

pub any_map : {A : Type 0} (p : List ℕ → Bool) (f : A → List ℕ) (xs : List A) → list_any p (map f xs) ≡ list_any (λ x. p (f x)) xs
any_map p f [] = refl
any_map p f (x ∷ xs) = ap (λ b. p (f x) || b) (any_map p f xs)

prefix_map : {A : Type 0} (p : List ℕ → Bool) (f : A → List ℕ) (xs : List A) → prefix_len p (map f xs) ≡ prefix_len (λ x. p (f x)) xs
prefix_map p f [] = refl
prefix_map p f (x ∷ xs) = ap (λ n. cond (p (f x)) (1 + n) 0) (prefix_map p f xs)

pub position_map : {A : Type 0} (p : List ℕ → Bool) (f : A → List ℕ) (xs : List A) → position p (map f xs) ≡ position (λ x. p (f x)) xs
position_map p f xs = rw (prefix_map (λ x. not (p x)) f xs, length-map xs f) refl

suc_lt : (a b : ℕ) → nat_lt (1 + a) (suc b) ≡ nat_lt a b
suc_lt a b = grind (arith, nat_tests)

and_false : (a : Bool) → (a && false) ≡ false
and_false true = refl
and_false false = refl

-- whether one of the first e passes, by the place of the first that passes
pub any_take : {A : Type 0} (p : A → Bool) (e : ℕ) (xs : List A) → list_any p (take e xs) ≡ (nat_lt (position_or_len p xs) (length xs) && nat_lt (position_or_len p xs) e)
any_take p e [] = ap (λ l. list_any p l) (take-nil e)
any_take p zero (x ∷ xs) =
    let none : nat_lt (position_or_len p (x ∷ xs)) 0 ≡ false = grind (arith, nat_tests) in
    sym (ap (λ b. nat_lt (position_or_len p (x ∷ xs)) (length (x ∷ xs)) && b) none ∙ and_false (nat_lt (position_or_len p (x ∷ xs)) (length (x ∷ xs))))
any_take p (suc e) (x ∷ xs) = by_first (any_take p e xs) (p x) refl where
  by_first : list_any p (take e xs) ≡ (nat_lt (position_or_len p xs) (length xs) && nat_lt (position_or_len p xs) e) → (b : Bool) → p x ≡ b → list_any p (x ∷ take e xs) ≡ (nat_lt (position_or_len p (x ∷ xs)) (suc (length xs)) && nat_lt (position_or_len p (x ∷ xs)) (suc e))
  by_first ih true h =
      let none : position_or_len p (x ∷ xs) ≡ 0 = ap (λ b. cond (not b) (1 + position_or_len p xs) 0) h in
      let size : nat_lt 0 (suc (length xs)) ≡ true = grind (arith, nat_tests) in
      let end : nat_lt 0 (suc e) ≡ true = grind (arith, nat_tests) in
      ap (λ b. b || list_any p (take e xs)) h ∙ sym (ap (λ n. nat_lt n (suc (length xs)) && nat_lt n (suc e)) none ∙ ap (λ b. b && nat_lt 0 (suc e)) size ∙ end)
  by_first ih false h =
      let more : position_or_len p (x ∷ xs) ≡ 1 + position_or_len p xs = ap (λ b. cond (not b) (1 + position_or_len p xs) 0) h in
      ap (λ b. b || list_any p (take e xs)) h ∙ ih
      ∙ sym (ap (λ n. nat_lt n (suc (length xs)) && nat_lt n (suc e)) more
      ∙ ap (λ b. b && nat_lt (1 + position_or_len p xs) (suc e)) (suc_lt (position_or_len p xs) (length xs)) ∙ ap (λ b. nat_lt (position_or_len p xs) (length xs) && b) (suc_lt (position_or_len p xs) e))

-- the place is found where one passes, and it is the first
pub found_at : {A : Type 0} (p : A → Bool) (xs : List A) (k : ℕ) → Some k ≡ position p xs → (nat_lt (position_or_len p xs) (length xs) ≡ true) × (position_or_len p xs ≡ k)
found_at p xs k e = by_test (nat_lt (position_or_len p xs) (length xs)) refl e where
  by_test : (b : Bool) → nat_lt (position_or_len p xs) (length xs) ≡ b → Some k ≡ cond b (Some (position_or_len p xs)) None → (nat_lt (position_or_len p xs) (length xs) ≡ true) × (position_or_len p xs ≡ k)
  by_test true h f = (h, cc)
  by_test false h f = absurd (cc)

pub found_nowhere : {A : Type 0} (p : A → Bool) (xs : List A) → None ≡ position p xs → nat_lt (position_or_len p xs) (length xs) ≡ false
found_nowhere p xs e = by_test (nat_lt (position_or_len p xs) (length xs)) refl e where
  by_test : (b : Bool) → nat_lt (position_or_len p xs) (length xs) ≡ b → None ≡ cond b (Some (position_or_len p xs)) None → nat_lt (position_or_len p xs) (length xs) ≡ false
  by_test true h f = absurd (cc)
  by_test false h f = h

pub among_first : {A : Type 0} (p : A → Bool) (e : ℕ) (xs : List A) (k : ℕ) → Some k ≡ position p xs → list_any p (take e xs) ≡ nat_lt k e
among_first p e xs k is = let f = found_at p xs k is in any_take p e xs ∙ ap (λ b. b && nat_lt (position_or_len p xs) e) f.0 ∙ ap (λ n. nat_lt n e) f.1

pub among_none : {A : Type 0} (p : A → Bool) (e : ℕ) (xs : List A) → None ≡ position p xs → list_any p (take e xs) ≡ false
among_none p e xs is = any_take p e xs ∙ ap (λ b. b && nat_lt (position_or_len p xs) e) (found_nowhere p xs is)

-- the first that passes, by its place
pub find_is : {A : Type 0} (p : A → Bool) (xs : List A) (d : A) → find p xs ≡ cond (nat_lt (position_or_len p xs) (length xs)) (Some (get_or xs (position_or_len p xs) d)) None
find_is p [] d = let none : nat_lt 0 0 ≡ false = grind (arith, nat_tests) in sym (ap (λ b. cond b (Some d) None) none)
find_is {A} p (x ∷ xs) d = by_first (find_is p xs d) (p x) refl where
  by_first : find p xs ≡ cond (nat_lt (position_or_len p xs) (length xs)) (Some (get_or xs (position_or_len p xs) d)) None → (b : Bool) → p x ≡ b → cond (p x) (Some x) (find p xs) ≡ cond (nat_lt (position_or_len p (x ∷ xs)) (suc (length xs))) (Some (get_or (x ∷ xs) (position_or_len p (x ∷ xs)) d)) None
  by_first ih true h =
      let none : position_or_len p (x ∷ xs) ≡ 0 = ap (λ b. cond (not b) (1 + position_or_len p xs) 0) h in
      let size : nat_lt 0 (suc (length xs)) ≡ true = grind (arith, nat_tests) in
      let F : ℕ → Option A = λ n. cond (nat_lt n (suc (length xs))) (Some (get_or (x ∷ xs) n d)) None in
      ap (λ b. cond b (Some x) (find p xs)) h ∙ sym (ap F none ∙ ap (λ b. cond b (Some x) None) size)
  by_first ih false h =
      let more : position_or_len p (x ∷ xs) ≡ suc (position_or_len p xs) = ap (λ b. cond (not b) (1 + position_or_len p xs) 0) h ∙ omega arith in
      let lt : nat_lt (suc (position_or_len p xs)) (suc (length xs)) ≡ nat_lt (position_or_len p xs) (length xs) = grind (arith, nat_tests) in
      let F : ℕ → Option A = λ n. cond (nat_lt n (suc (length xs))) (Some (get_or (x ∷ xs) n d)) None in
      ap (λ b. cond b (Some x) (find p xs)) h ∙ ih
      ∙ sym (ap F more ∙ ap (λ b. cond b (Some (get_or xs (position_or_len p xs) d)) None) lt)

pub find_found : {A : Type 0} (p : A → Bool) (xs : List A) (d : A) (k : ℕ) → Some k ≡ position p xs → (k < length xs) × (find p xs ≡ Some (get_or xs k d))
find_found p xs d k is =
    let f = found_at p xs k is in
    let inside : position_or_len p xs < length xs = grind (arith, nat_tests, f.0) in
    (omega (arith, inside, f.1), find_is p xs d ∙ ap (λ b. cond b (Some (get_or xs (position_or_len p xs) d)) None) f.0 ∙ ap (λ n. Some (get_or xs n d)) f.1)

pub find_none : {A : Type 0} (p : A → Bool) (xs : List A) (d : A) → None ≡ position p xs → find p xs ≡ None
find_none p xs d is = find_is p xs d ∙ ap (λ b. cond b (Some (get_or xs (position_or_len p xs) d)) None) (found_nowhere p xs is)

-- a step of a search
pub find_step : {A : Type 0} (p : A → Bool) (xs : List A) (k : ℕ) (x : A) → k < length xs → x ≡ get_or xs k x → find p (drop k xs) ≡ cond (p x) (Some x) (find p (drop (k + 1) xs))
find_step p xs k x l is =
    let front : drop k xs ≡ x ∷ drop (suc k) xs = drop-cons xs k x l ∙ ap (λ y. y ∷ drop (suc k) xs) (sym is) in
    ap (find p) front ∙ ap (λ n. cond (p x) (Some x) (find p (drop n xs))) (sym (add-one k))

pub find_end : {A : Type 0} (p : A → Bool) (xs : List A) (k : ℕ) → length xs ≤ k → find p (drop k xs) ≡ None
find_end p xs k g = ap (find p) (drop_of_length-le xs g)
