-- Elements of lists, and lists with a value set.
use Rattle.std.proofs.Common.{◌≡◌, ℕ, zero, suc, ◌-◌, ◌<◌, List, [], ◌∷◌, length, take, map, get_or, Some, None, refl, ap, arith, true}
use Rattle.std.proofs.lemmas.List.{take_all}
use Rattle.glk_frames.specs.Chain.{at_index}
use Rattle.glk_pctab.specs.FirstUse.{is_among}
use Rattle.glk_pctab.specs.Functions.{set_at}
use Rattle.glk_pctab.proofs.FirstUseLemmas.{among_first, among_next}

pub map_get : {A B : Type 0} (g : A → B) (xs : List A) (i : ℕ) (d : A) (e : B) → i < length xs → get_or (map g xs) i e ≡ g (get_or xs i d)
map_get g [] i d e inside = absurd (omega arith)
map_get g (x ∷ xs) zero d e inside = refl
map_get g (x ∷ xs) (suc i) d e inside = map_get g xs i d e (omega arith)

-- an element of a list, mapped
pub at_get : {A B : Type 0} (g : A → B) (xs : List A) (k : ℕ) (x : A) (e : B) → at_index xs k ≡ Some x → (k < length xs) × (get_or (map g xs) k e ≡ g x)
at_get g [] k x e is = absurd (let bad : None ≡ Some x = is in cc)
at_get g (y ∷ xs) zero x e is = (omega arith, let h : Some y ≡ Some x = is in let same : y ≡ x = cc in ap g same)
at_get g (y ∷ xs) (suc k) x e is = let h = at_get g xs k x e is in (omega (arith, h.0), h.1)

pub at_map : {A B : Type 0} (g : A → B) (xs : List A) (k : ℕ) (x : A) → at_index xs k ≡ Some x → at_index (map g xs) k ≡ Some (g x)
at_map g [] k x is = absurd (let bad : None ≡ Some x = is in cc)
at_map g (y ∷ xs) zero x is = let h : Some y ≡ Some x = is in let same : y ≡ x = cc in ap (λ z. Some (g z)) same
at_map g (y ∷ xs) (suc k) x is = at_map g xs k x is

pub at_unmap : {A B : Type 0} (g : A → B) (xs : List A) (k : ℕ) (y : B) → at_index (map g xs) k ≡ Some y → (x : A) × (at_index xs k ≡ Some x) × (g x ≡ y)
at_unmap g [] k y is = absurd (let bad : None ≡ Some y = is in cc)
at_unmap g (x ∷ xs) zero y is = (x, refl, let h : Some (g x) ≡ Some y = is in cc)
at_unmap g (x ∷ xs) (suc k) y is = at_unmap g xs k y is

-- an index that is inside has an element
pub at_inside : {A : Type 0} (xs : List A) (k : ℕ) → k < length xs → (x : A) × (at_index xs k ≡ Some x)
at_inside [] k inside = absurd (omega arith)
at_inside (x ∷ xs) zero inside = (x, refl)
at_inside (x ∷ xs) (suc k) inside = at_inside xs k (omega arith)

pub set_get : {A : Type 0} (d v e : A) (k : ℕ) (xs : List A) → get_or (set_at d v k xs) k e ≡ v
set_get d v e zero [] = refl
set_get d v e zero (x ∷ xs) = refl
set_get d v e (suc k) [] = set_get d v e k []
set_get d v e (suc k) (x ∷ xs) = set_get d v e k xs

pub set_long : {A : Type 0} (d v : A) (k : ℕ) (xs : List A) → k < length (set_at d v k xs)
set_long d v zero [] = omega arith
set_long d v zero (x ∷ xs) = omega arith
set_long d v (suc k) [] = omega (arith, set_long d v k [])
set_long d v (suc k) (x ∷ xs) = omega (arith, set_long d v k xs)

pub set_among : (d v : List ℕ) (k : ℕ) (xs : List (List ℕ)) → is_among (set_at d v k xs) v ≡ true
set_among d v zero [] = among_first v []
set_among d v zero (x ∷ xs) = among_first v xs
set_among d v (suc k) [] = among_next d (set_at d v k []) v (set_among d v k [])
set_among d v (suc k) (x ∷ xs) = among_next x (set_at d v k xs) v (set_among d v k xs)

-- what is left after the first
pub rest_is : {A : Type 0} (x : A) (xs : List A) → take (length (x ∷ xs) - 1) xs ≡ xs
rest_is x xs = take_all (length (x ∷ xs) - 1) xs (omega arith)

pub none_left : {A : Type 0} (xs : List A) → length xs < 1 → xs ≡ []
none_left [] none = refl
none_left (x ∷ xs) none = absurd (omega arith)
