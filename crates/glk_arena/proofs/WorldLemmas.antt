-- Packages in load order: their objects and rows, counted through.
use Rattle.std.proofs.Common.{◌≡◌, ◌<◌, ◌≤◌, ◌+◌, ◌-◌, ℕ, zero, suc, List, [], ◌∷◌, ◌++◌, length, take, drop, get_or, All, refl, sym, ap, subst, ◌∙◌, arith, drop-cons, inl, inr}
use Rattle.std.specs.List.{sum_by, flat_map}
use Rattle.std.proofs.lemmas.Bool.{cases_lt}
use Rattle.std.proofs.lemmas.List.{append-nil}
use Rattle.std.proofs.lemmas.Grind.{flat_map-append}
use Rattle.std.proofs.lemmas.List.Sums.{sum_by-cons, sum_by-append}
use Rattle.std.proofs.lemmas.List.Concat.{length-flat_map, flat_map-cons, get_or-flat_map}
use Rattle.std.proofs.lemmas.List.Elements.{All-nil, All-head, All-tail, All-append}
use Rattle.glk_obj.specs.Object.{IsObject}
use Rattle.glk_obj.specs.Records.{symbols}
use Rattle.glk_base.specs.Groups.{group_of, group_start}
use Rattle.glk_arena.specs.World.{Package, objects_of, package_of_object, first_object, object_count, file_bytes, symbol_count, package_symbols}
use Rattle.glk_arena.specs.Stored.{IsWhole}
use Rattle.glk_arena.specs.ImportRefs.{no_package}
use Rattle.glk_arena.specs.Tables.{object_number}
use Rattle.glk_base.proofs.Groups.{group_holds, lt_true, lt_false}
use Rattle.glk_arena.proofs.StoredLemmas.{package_objects, package_rows}

pub objects_are : (world : List Package) → objects_of world ≡ flat_map (λ p. p.objects) world
unfolding objects_of
objects_are world = refl

-- the objects of a package before those of the later ones, and after those of the earlier ones
pub objects_cons : (p : Package) (later : List Package) → objects_of (p ∷ later) ≡ p.objects ++ objects_of later
unfolding objects_of
objects_cons p later = flat_map-cons (λ q. q.objects) p later

pub objects_push : (world : List Package) (p : Package) → objects_of (world ++ p ∷ []) ≡ objects_of world ++ p.objects
unfolding objects_of
objects_push world p = flat_map-append (λ q. q.objects) world (p ∷ []) ∙ ap (λ os. objects_of world ++ os) (flat_map-cons (λ q. q.objects) p [] ∙ append-nil p.objects)

pub objects_total : (world : List Package) → length (objects_of world) ≡ sum_by object_number world
unfolding objects_of
objects_total world = length-flat_map (λ q. q.objects) world

pub first_is : (world : List Package) (p : ℕ) → first_object world p ≡ group_start object_number world p
unfolding first_object group_start
first_is world p = objects_total (take p world)

pub owner_is : (world : List Package) (n : ℕ) → package_of_object world n ≡ group_of object_number world n
unfolding package_of_object group_of
owner_is [] n = refl
owner_is (p ∷ later) n =
    elim (cases_lt n (length p.objects)) [
      | inl m ↦ rw (lt_true n (length p.objects) m) refl
      | inr g ↦ rw (lt_false n (length p.objects) g) (ap suc (owner_is later (n - length p.objects)))
    ]

take_one : (world : List Package) (p : ℕ) → p < length world → take 1 (drop p world) ≡ get_or world p no_package ∷ []
take_one world p l = ap (take 1) (drop-cons world p no_package l)

pub count_is : (world : List Package) (p : ℕ) → p < length world → object_count world p ≡ length (get_or world p no_package).objects
unfolding object_count
count_is world p l =
    ap (λ w. length (objects_of w)) (take_one world p l) ∙ objects_total (get_or world p no_package ∷ [])
    ∙ sum_by-cons object_number (get_or world p no_package) [] ∙ omega arith

-- object n is one of its package's
pub object_is : (world : List Package) (n p first : ℕ) → p < length world → p ≡ package_of_object world n → first ≡ first_object world p → n < length (objects_of world)
    → (first ≤ n) × (n - first < length (get_or world p no_package).objects)
    × (get_or (get_or world p no_package).objects (n - first) [] ≡ get_or (objects_of world) n [])
unfolding first_object
object_is world n p first l own begin inside =
    let total = objects_total world in
    let group : p ≡ group_of object_number world n = own ∙ owner_is world n in
    let start : first ≡ group_start object_number world p = begin ∙ first_is world p in
    let holds = group_holds object_number world no_package n (omega (arith, inside, total)) in
    let low : first ≤ n =
    let a : group_start object_number world p ≤ n = subst (λ (k : ℕ). group_start object_number world k ≤ n) (sym group) holds.0 in omega (arith, a, start) in
    let high : n < first + length (get_or world p no_package).objects =
    let P : ℕ → Type 0 = λ k. n < group_start object_number world k + length (get_or world k no_package).objects in
    let a : n < group_start object_number world p + length (get_or world p no_package).objects = subst P (sym group) holds.1 in omega (arith, a, start) in
    let before : length (flat_map (λ q. q.objects) (take p world)) ≡ first = ap length (sym (objects_are (take p world))) ∙ sym begin in
    let place : length (flat_map (λ q. q.objects) (take p world)) + (n - first) ≡ n = omega (arith, before, low) in
    let found = get_or-flat_map (λ q. q.objects) world p (n - first) no_package [] l (omega (arith, low, high)) in
    (low, omega (arith, low, high), sym found ∙ ap (λ k. get_or (flat_map (λ q. q.objects) world) k []) place ∙ ap (λ w. get_or w n []) (sym (objects_are world)))

-- all objects are objects
pub all_objects : (world : List Package) → All IsWhole world → All IsObject (objects_of world)
unfolding objects_of
all_objects [] all = All-nil IsObject
all_objects (p ∷ world) all =
    let P : List (List ℕ) → Type 0 = λ w. All IsObject w in
    subst P (sym (objects_cons p world))
    (All-append IsObject p.objects (objects_of world) (All-head IsWhole p world all).objects (all_objects world (All-tail IsWhole p world all)))

-- they and their symbols are no more than the bytes of the files
pub few_objects : (world : List Package) → All IsWhole world → sum_by object_number world ≤ file_bytes world
few_objects [] all = omega arith
few_objects (p ∷ world) all =
    let here = package_objects p (All-head IsWhole p world all) in
    let behind = few_objects world (All-tail IsWhole p world all) in
    omega (arith, here, behind, sum_by-cons object_number p world, sum_by-cons (λ q. length q.file) p world)

pub few_symbols : (world : List Package) → All IsWhole world → sum_by package_symbols world ≤ file_bytes world
few_symbols [] all = omega arith
few_symbols (p ∷ world) all =
    let here = package_rows p (All-head IsWhole p world all) in
    let behind = few_symbols world (All-tail IsWhole p world all) in
    omega (arith, here, behind, sum_by-cons package_symbols p world, sum_by-cons (λ q. length q.file) p world)

pub one_few : (world : List Package) (p : ℕ) → p < length world → All IsWhole world → length (get_or world p no_package).objects ≤ file_bytes world
one_few [] p l all = absurd (omega (arith, l))
one_few (q ∷ world) zero l all = omega (arith, package_objects q (All-head IsWhole q world all), sum_by-cons (λ r. length r.file) q world)
one_few (q ∷ world) (suc p) l all = omega (arith, one_few world p (omega (arith, l)) (All-tail IsWhole q world all), sum_by-cons (λ r. length r.file) q world)

-- the symbols of a package, and of all
symbols_of_none : symbol_count [] ≡ sum_by package_symbols []
unfolding objects_of
symbols_of_none = refl

own_symbols : (p : Package) → package_symbols p ≡ sum_by symbols p.objects
unfolding package_symbols
own_symbols p = refl

pub symbols_are : (world : List Package) → symbol_count world ≡ sum_by package_symbols world
symbols_are [] = symbols_of_none
symbols_are (p ∷ world) =
    ap (λ w. sum_by symbols w) (objects_cons p world) ∙ sum_by-append symbols p.objects (objects_of world)
    ∙ omega (arith, own_symbols p, symbols_are world, sum_by-cons package_symbols p world)
