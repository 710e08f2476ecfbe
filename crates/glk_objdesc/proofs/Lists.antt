-- Lists of what a function gives for each number, and joins of lists.
use Rattle.std.proofs.Common.{◌≡◌, ℕ, ◌+◌, ◌-◌, ◌≤◌, ◌<◌, arith, List, [], ◌∷◌, ◌++◌, length, take, get_or, All, ap, sym, subst, ◌∙◌, append_assoc}
use Rattle.std.proofs.lemmas.List.{take_more, take_all}
use Rattle.std.proofs.lemmas.List.Elements.{All-push}
use Rattle.std.specs.List.{flat_map}
use Rattle.std.proofs.lemmas.List.FromFn.{map-range_with_len_more}
use Rattle.std.proofs.lemmas.List.Concat.{flat_map-append}
use Rattle.glk_objdesc.specs.Described.{each_from}

-- one more item
pub each_more : {X : Type 0} (f : ℕ → X) (k : ℕ) (before after : List X) (x : X) → before ≡ each_from f 0 k → after ≡ before ++ x ∷ [] → x ≡ f k → after ≡ each_from f 0 (k + 1)
each_more {X} f k before after x e pushed is =
    pushed ∙ ap (λ (xs : List X). xs ++ x ∷ []) e ∙ ap (λ (y : X). each_from f 0 k ++ y ∷ []) is ∙ sym (map-range_with_len_more f 0 k k (omega arith))

-- the same from 1 on
pub each_more_one : {X : Type 0} (f : ℕ → X) (k : ℕ) (before after : List X) (x : X) → 1 ≤ k → before ≡ each_from f 1 (k - 1) → after ≡ before ++ x ∷ [] → x ≡ f k → after ≡ each_from f 1 (k + 1 - 1)
each_more_one {X} f k before after x low e pushed is =
    let offset : k - 1 + 1 ≡ k + 1 - 1 = omega arith in
    pushed ∙ ap (λ (xs : List X). xs ++ x ∷ []) e ∙ ap (λ (y : X). each_from f 1 (k - 1) ++ y ∷ []) is ∙ sym (map-range_with_len_more f 1 (k - 1) k (omega arith))
    ∙ ap (λ (n : ℕ). each_from f 1 n) offset

-- two counts that do not differ
pub not_other : (m n : ℕ) → ((m ≡ n → ⊥) → ⊥) → m ≡ n
not_other m n h = grind (arith, h)

-- a join over four lists
pub join_four : {X : Type 0} (f : X → List ℕ) (a b c d : List X) (front : List ℕ)
    → front ++ flat_map f a ++ flat_map f b ++ flat_map f c ++ flat_map f d ≡ front ++ flat_map f (a ++ (b ++ (c ++ d)))
join_four f a b c d front =
    let last = flat_map-append f c d in
    let middle = flat_map-append f b (c ++ d) in
    let whole = flat_map-append f a (b ++ (c ++ d)) in
    simp (append_assoc, whole, middle, last)

-- all up to an item, and all
pub all_more : {X : Type 0} (P : X → Type 0) (xs : List X) (i : ℕ) (d : X) → i < length xs → All P (take i xs) → P (get_or xs i d) → All P (take (i + 1) xs)
all_more P xs i d inside all here = subst (λ ys. All P ys) (sym (take_more xs i d inside)) (All-push P (take i xs) (get_or xs i d) all here)

pub all_more_item : {X : Type 0} (P : X → Type 0) (xs : List X) (i : ℕ) (x : X) → x ≡ get_or xs i x → i < length xs → All P (take i xs) → P x → All P (take (i + 1) xs)
all_more_item P xs i x is inside all here = all_more P xs i x inside all (subst P is here)

pub all_whole : {X : Type 0} (P : X → Type 0) (xs : List X) (i : ℕ) → length xs ≤ i → All P (take i xs) → All P xs
all_whole P xs i past all = subst (λ ys. All P ys) (take_all i xs past) all
