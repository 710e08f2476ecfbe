-- Lists of what a function gives for each of a range of numbers.
use Rattle.std.proofs.Common.{◌≡◌, ◌∙◌, ℕ, zero, suc, ◌+◌, ◌-◌, ◌≤◌, arith, List, [], ◌∷◌, ◌++◌, take, drop, map, ap, sym}
use Rattle.std.specs.List.{range_with_len, flat_map}
use Rattle.std.proofs.lemmas.List.{drop-map, append-nil}
use Rattle.std.proofs.lemmas.List.FromFn.{map-range_with_len_more, take-map-range_with_len}
use Rattle.std.proofs.lemmas.List.Concat.{flat_map-append}

cons_same : {X : Type 0} (x : X) (xs ys : List X) → xs ≡ ys → x ∷ xs ≡ x ∷ ys
cons_same {X} x xs ys e = ap (λ (zs : List X). x ∷ zs) e

-- a range with a number more
range_suc : (a n : ℕ) → range_with_len a (suc n) ≡ range_with_len a n ++ (a + n) ∷ []
range_suc a zero = cons_same_number a (a + 0) (omega arith)
  where
    cons_same_number : (x y : ℕ) → x ≡ y → x ∷ [] ≡ y ∷ []
    cons_same_number x y e = ap (λ (z : ℕ). z ∷ []) e
range_suc a (suc n) =
    let at : a + 1 + n ≡ a + suc n = omega arith in
    cons_same a _ _ (range_suc (a + 1) n ∙ ap (λ (z : ℕ). range_with_len (a + 1) n ++ z ∷ []) at)

pub range_more : (a n : ℕ) → range_with_len a (n + 1) ≡ range_with_len a n ++ (a + n) ∷ []
range_more a n = let e : n + 1 ≡ suc n = omega arith in ap (range_with_len a) e ∙ range_suc a n

-- one more item
pub map_more : {X : Type 0} (f : ℕ → X) (a n j : ℕ) (before after : List X) (x : X) → a + n ≡ j → before ≡ map f (range_with_len a n) → after ≡ before ++ x ∷ [] → x ≡ f j → after ≡ map f (range_with_len a (n + 1))
map_more {X} f a n j before after x at e pushed is =
    pushed ∙ ap (λ (xs : List X). xs ++ x ∷ []) e ∙ ap (λ (y : X). map f (range_with_len a n) ++ y ∷ []) is ∙ sym (map-range_with_len_more f a n j at)

-- the items of one number more
pub flat_map_more : (f : ℕ → List ℕ) (n : ℕ) (before after : List ℕ) → before ≡ flat_map f (range_with_len 0 n) → after ≡ before ++ f n → after ≡ flat_map f (range_with_len 0 (n + 1))
flat_map_more f n before after e pushed =
    let zero_at : 0 + n ≡ n = omega arith in
    let last : flat_map f ((0 + n) ∷ []) ≡ f n = append-nil (f (0 + n)) ∙ ap f zero_at in
    pushed ∙ ap (λ (xs : List ℕ). xs ++ f n) e ∙ ap (λ (xs : List ℕ). flat_map f (range_with_len 0 n) ++ xs) (sym last)
    ∙ sym (flat_map-append f (range_with_len 0 n) ((0 + n) ∷ [])) ∙ ap (flat_map f) (sym (range_more 0 n))

-- a part of a range
drop_range : (a b n : ℕ) → drop a (range_with_len b n) ≡ range_with_len (b + a) (n - a)
drop_range zero b n =
    let at : b ≡ b + 0 = omega arith in
    let all : n ≡ n - 0 = omega arith in
    ap (λ m. range_with_len b m) all ∙ ap (λ m. range_with_len m (n - 0)) at
drop_range (suc a) b zero = let none : 0 ≡ 0 - suc a = omega arith in ap (λ m. range_with_len (b + suc a) m) none
drop_range (suc a) b (suc n) =
    let at : b + 1 + a ≡ b + suc a = omega arith in
    let all : n - a ≡ suc n - suc a = omega arith in
    drop_range a (b + 1) n ∙ ap (λ m. range_with_len m (n - a)) at ∙ ap (λ m. range_with_len (b + suc a) m) all

-- a part of the items
pub part_of_map : {X : Type 0} (f : ℕ → X) (n a m : ℕ) (xs : List X) → xs ≡ map f (range_with_len 0 n) → a + m ≤ n → take (a + m - a) (drop a xs) ≡ map f (range_with_len a m)
part_of_map {X} f n a m xs e inside =
    let count : a + m - a ≡ m = omega arith in
    let at : 0 + a ≡ a = omega arith in
    let rest : drop a xs ≡ map f (range_with_len a (n - a)) =
    ap (λ (ys : List X). drop a ys) e ∙ drop-map f a (range_with_len 0 n) ∙ ap (map f) (drop_range a 0 n ∙ ap (λ z. range_with_len z (n - a)) at) in
    ap (λ k. take k (drop a xs)) count ∙ ap (λ (ys : List X). take m ys) rest ∙ take-map-range_with_len f a (n - a) m (omega arith)
