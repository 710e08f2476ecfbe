-- A part of a row, with a default where there is no such row.
use Rattle.std.proofs.Common.{◌≡◌, ◌<◌, ◌≤◌, ℕ, zero, suc, List, [], ◌∷◌, ◌++◌, Some, None, length, get_or, set, map, refl, sym, ap, subst, arith}
use Rattle.std.specs.Prelude.{slice_get}
use Rattle.std.specs.Option.{option_map_or}
use Rattle.std.specs.List.{All, Contains}
use Rattle.std.proofs.lemmas.Option.{slice_get_read, slice_get_within, same_Some}

pub set_same : {X Y : Type 0} (f : X → Y) (d : Y) (xs : List X) (t : ℕ) (v : X) → t < length xs → option_map_or f (slice_get (set xs t v) t) d ≡ f v
set_same f d [] t v l = absurd (omega (arith, l))
set_same f d (x ∷ xs) zero v l = refl
set_same f d (x ∷ xs) (suc t) v l = set_same f d xs t v (omega arith)

pub set_other : {X Y : Type 0} (f : X → Y) (d : Y) (xs : List X) (t u : ℕ) (v : X) → (u ≡ t → ⊥) → option_map_or f (slice_get (set xs t v) u) d ≡ option_map_or f (slice_get xs u) d
set_other f d [] t u v ne = refl
set_other f d (x ∷ xs) zero zero v ne = absurd (ne refl)
set_other f d (x ∷ xs) zero (suc u) v ne = refl
set_other f d (x ∷ xs) (suc t) zero v ne = refl
set_other f d (x ∷ xs) (suc t) (suc u) v ne = set_other f d xs t u v (λ e. ne (ap suc e))

-- one more row, whose part is the default
pub push_default : {X Y : Type 0} (f : X → Y) (d : Y) (xs : List X) (v : X) (t : ℕ) → f v ≡ d → option_map_or f (slice_get (xs ++ v ∷ []) t) d ≡ option_map_or f (slice_get xs t) d
push_default f d [] v zero e = e
push_default f d [] v (suc t) e = refl
push_default f d (x ∷ xs) v zero e = refl
push_default f d (x ∷ xs) v (suc t) e = push_default f d xs v t e

-- what was read at a row
pub part_read : {X Y : Type 0} (f : X → Y) (d : Y) (xs : List X) (t : ℕ) (v : X) → t < length xs → slice_get xs t ≡ Some v → option_map_or f (slice_get xs t) d ≡ f v
part_read f d xs t v l e = ap (λ o. option_map_or f o d) e

-- a list that is longer at its end
pub get_append : {X : Type 0} (xs ys : List X) (t : ℕ) (v : X) → slice_get xs t ≡ Some v → slice_get (xs ++ ys) t ≡ Some v
get_append [] ys t v e = absurd (let bad : None ≡ Some v = e in cc)
get_append (x ∷ xs) ys zero v e = e
get_append (x ∷ xs) ys (suc t) v e = get_append xs ys t v e

pub get_front : {X : Type 0} (xs ys : List X) (t : ℕ) (v : X) → t < length xs → slice_get (xs ++ ys) t ≡ Some v → slice_get xs t ≡ Some v
get_front [] ys t v l e = absurd (omega (arith, l))
get_front (x ∷ xs) ys zero v l e = e
get_front (x ∷ xs) ys (suc t) v l e = get_front xs ys t v (omega arith) e

-- the last one of a list that got one more
pub get_last : {X : Type 0} (xs : List X) (x : X) (t : ℕ) (v : X) → length xs ≤ t → slice_get (xs ++ x ∷ []) t ≡ Some v → (t ≡ length xs) × (x ≡ v)
get_last [] x zero v l e = (refl, let h : Some x ≡ Some v = e in cc)
get_last [] x (suc t) v l e = absurd (let bad : None ≡ Some v = e in cc)
get_last (y ∷ ys) x zero v l e = absurd (omega (arith, l))
get_last (y ∷ ys) x (suc t) v l e = let r = get_last ys x t v (omega arith) e in (ap suc r.0, r.1)

pub get_at_end : {X : Type 0} (xs : List X) (x : X) → slice_get (xs ++ x ∷ []) (length xs) ≡ Some x
get_at_end [] x = refl
get_at_end (y ∷ ys) x = get_at_end ys x

pub get_or_some : {X : Type 0} (xs : List X) (t : ℕ) (v d : X) → slice_get xs t ≡ Some v → get_or xs t d ≡ v
get_or_some [] t v d e = absurd (let bad : None ≡ Some v = e in cc)
get_or_some (x ∷ xs) zero v d e = let h : Some x ≡ Some v = e in cc
get_or_some (x ∷ xs) (suc t) v d e = get_or_some xs t v d e

-- what was read at a place is an element
pub contains_at : {X : Type 0} (xs : List X) (t : ℕ) (v : X) → slice_get xs t ≡ Some v → Contains xs v
contains_at xs t v e = (t, slice_get_within xs t v e, get_or_some xs t v v e)

-- an element stands at a place
pub place_of : {X : Type 0} (xs : List X) (v : X) (c : Contains xs v) → slice_get xs c.0 ≡ Some v
place_of xs v c = slice_get_read xs (length xs) c.0 v refl c.1 (sym c.2)

pub get_map : {X Y : Type 0} (f : X → Y) (xs : List X) (t : ℕ) (v : X) → slice_get xs t ≡ Some v → slice_get (map f xs) t ≡ Some (f v)
get_map f [] t v e = absurd (let bad : None ≡ Some v = e in cc)
get_map f (x ∷ xs) zero v e = let h : Some x ≡ Some v = e in ap Some (ap f (same_Some x v h))
get_map f (x ∷ xs) (suc t) v e = get_map f xs t v e

-- what holds of all elements holds of one
pub all_contains : {X : Type 0} (P : X → Type 0) (xs : List X) (v : X) → All P xs → Contains xs v → P v
all_contains P xs v all c = subst P c.2 (all c.0 v c.1)
