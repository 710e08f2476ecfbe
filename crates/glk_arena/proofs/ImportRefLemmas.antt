-- Imports by their refs.
use Rattle.std.proofs.Common.{◌≡◌, ◌<◌, ◌≤◌, ◌+◌, ◌++◌, ◌∷◌, [], ℕ, zero, suc, List, length, get_or, map, take, All, refl, ap, sym, subst, ◌∙◌, arith, add-one, append_assoc, length-append}
use Rattle.std.specs.List.{flat_map, range_with_len}
use Rattle.std.proofs.Math.Seq.{take-suc, take-append_seam}
use Rattle.std.proofs.lemmas.List.{map-append, get_or-map, length-map, take_all, append-nil, get_or_append_left}
use Rattle.std.proofs.lemmas.Grind.{flat_map-append}
use Rattle.std.proofs.lemmas.List.Concat.{flat_map-cons}
use Rattle.std.proofs.lemmas.List.Elements.{All-nil, All-cons, All-append, All-map, All-head, All-tail}
use Rattle.glk_obj.specs.Blocks.{count, autolib}
use Rattle.glk_arena.specs.declared.imports.ImportRef.{ImportRef}
use Rattle.glk_arena.specs.World.{Package}
use Rattle.glk_arena.specs.Imports.{Import, import_at, object_imports, package_imports, imports_of}
use Rattle.glk_arena.specs.ImportRefs.{no_package, import_by, IsImportRef, AreImportsOf, ref_at}

-- the import of a place in the list of all
pub place_is : (world : List Package) (refs : List ImportRef) (k : ℕ) (d : ImportRef) (i : Import) → AreImportsOf world world refs → k < length refs → i ≡ import_by world (get_or refs k d)
    → (k < length (imports_of world)) × ((e : Import) → i ≡ get_or (imports_of world) k e)
place_is world refs k d i are l is =
    let inside : k < length (imports_of world) = omega (arith, l, length-map refs (import_by world), ap length are.same) in
    (inside, λ e. is ∙ sym (get_or-map (import_by world) refs k d e l) ∙ ap (λ xs. get_or xs k e) are.same)

pub refs_long : (world : List Package) (refs : List ImportRef) → AreImportsOf world world refs → length refs ≡ length (imports_of world)
refs_long world refs are = sym (length-map refs (import_by world)) ∙ ap length are.same

-- the refs of an object's entries
pub range_push : (a n : ℕ) → range_with_len a (n + 1) ≡ range_with_len a n ++ (a + n) ∷ []
range_push a n = ap (range_with_len a) (add-one n) ∙ push a n where
  push : (a n : ℕ) → range_with_len a (suc n) ≡ range_with_len a n ++ (a + n) ∷ []
  push a zero = ap (λ x. x ∷ []) (omega arith)
  push a (suc n) = ap (λ xs. a ∷ xs) (push (a + 1) n) ∙ ap (λ x. a ∷ (range_with_len (a + 1) n ++ x ∷ [])) (omega arith)

pub entries_more : (owner object n : ℕ) (before now later : List ImportRef) → now ≡ before ++ map (ref_at owner object) (range_with_len 0 n) → later ≡ now ++ ref_at owner object n ∷ []
    → later ≡ before ++ map (ref_at owner object) (range_with_len 0 (n + 1))
entries_more owner object n before now later is more =
    let range : range_with_len 0 (n + 1) ≡ range_with_len 0 n ++ n ∷ [] = range_push 0 n ∙ ap (λ x. range_with_len 0 n ++ x ∷ []) (omega arith) in
    more ∙ ap (λ xs. xs ++ ref_at owner object n ∷ []) is ∙ append_assoc before (map (ref_at owner object) (range_with_len 0 n)) (ref_at owner object n ∷ [])
    ∙ ap (λ xs. before ++ xs) (sym (map-append (ref_at owner object) (range_with_len 0 n) (n ∷ []))) ∙ ap (λ xs. before ++ map (ref_at owner object) xs) (sym range)

map_twice : {A B C : Type 0} (f : B → C) (g : A → B) (xs : List A) → map f (map g xs) ≡ map (λ x. f (g x)) xs
map_twice f g [] = refl
map_twice f g (x ∷ xs) = ap (λ ys. f (g x) ∷ ys) (map_twice f g xs)

pub entries_are : (world : List Package) (owner object : ℕ)
    → map (import_by world) (map (ref_at owner object) (range_with_len 0 (count (get_or (get_or world owner no_package).objects object []) autolib)))
    ≡ object_imports (get_or world owner no_package).path (get_or (get_or world owner no_package).objects object [])
unfolding object_imports
entries_are world owner object = map_twice (import_by world) (ref_at owner object) (range_with_len 0 (count (get_or (get_or world owner no_package).objects object []) autolib))

all_range : (P : ℕ → Type 0) (a n : ℕ) → ((e : ℕ) → e < a + n → P e) → All P (range_with_len a n)
all_range P a zero h = All-nil P
all_range P a (suc n) h = All-cons P a (range_with_len (a + 1) n) (h a (omega arith)) (all_range P (a + 1) n (λ e l. h e (omega (arith, l))))

pub entries_stand : (world : List Package) (owner object n : ℕ) → owner < length world → object < length (get_or world owner no_package).objects
    → n ≡ count (get_or (get_or world owner no_package).objects object []) autolib → All (IsImportRef world) (map (ref_at owner object) (range_with_len 0 n))
entries_stand world owner object n o b e =
    All-map (IsImportRef world) (ref_at owner object) (range_with_len 0 n)
    (all_range (λ k. IsImportRef world (ref_at owner object k)) 0 n (λ k l. record { owner = o; object = b; entry = omega (arith, l, e) }))

-- the refs of the imports of the packages before one, and of its first objects
pub record ArePlacesUpTo (world : List Package) (p n : ℕ) (refs : List ImportRef) : Type 0 where
  pub each : All (IsImportRef world) refs
  pub same : map (import_by world) refs
      ≡ imports_of (take p world) ++ flat_map (object_imports (get_or world p no_package).path) (take n (get_or world p no_package).objects)

pub package_start : (world : List Package) (p : ℕ) (refs : List ImportRef) → AreImportsOf world (take p world) refs → ArePlacesUpTo world p 0 refs
package_start world p refs are = record { each = are.each; same = are.same ∙ sym (append-nil (imports_of (take p world))) }

pub package_more : (world : List Package) (p n count_of : ℕ) (before now : List ImportRef) → p < length world → n < length (get_or world p no_package).objects
    → count_of ≡ count (get_or (get_or world p no_package).objects n []) autolib → now ≡ before ++ map (ref_at p n) (range_with_len 0 count_of)
    → ArePlacesUpTo world p n before → ArePlacesUpTo world p (n + 1) now
package_more world p n count_of before now l m c more are = record {
  each = subst (λ (ps : List ImportRef). All (IsImportRef world) ps) (sym more) (All-append (IsImportRef world) before (map (ref_at p n) (range_with_len 0 count_of)) are.each (entries_stand world p n count_of l m c));
  same =
      ap (map (import_by world)) more ∙ map-append (import_by world) before (map (ref_at p n) (range_with_len 0 count_of))
      ∙ ap (λ xs. xs ++ map (import_by world) (map (ref_at p n) (range_with_len 0 count_of))) are.same
      ∙ ap (λ xs. (imports_of (take p world) ++ flat_map one (take n q.objects)) ++ xs) here
      ∙ append_assoc (imports_of (take p world)) (flat_map one (take n q.objects)) (one (get_or q.objects n []))
      ∙ ap (λ xs. imports_of (take p world) ++ xs) (sym cut);
}
  where
    q : Package
    q = get_or world p no_package

    one : List ℕ → List Import
    one = object_imports q.path

    here : map (import_by world) (map (ref_at p n) (range_with_len 0 count_of)) ≡ one (get_or q.objects n [])
    here =
        ap (λ k. map (import_by world) (map (ref_at p n) (range_with_len 0 k))) c ∙ entries_are world p n

    cut : flat_map one (take (n + 1) q.objects) ≡ flat_map one (take n q.objects) ++ one (get_or q.objects n [])
    cut =
        ap (flat_map one) (ap (λ k. take k q.objects) (add-one n) ∙ take-suc q.objects n [] m)
        ∙ flat_map-append one (take n q.objects) (get_or q.objects n [] ∷ [])
        ∙ ap (λ xs. flat_map one (take n q.objects) ++ xs) (flat_map-cons one (get_or q.objects n []) [] ∙ append-nil (one (get_or q.objects n [])))

-- imports of packages one behind the other
pub imports_append : (some later : List Package) → imports_of (some ++ later) ≡ imports_of some ++ imports_of later
unfolding imports_of
imports_append some later = flat_map-append package_imports some later

imports_one : (p : Package) → imports_of (p ∷ []) ≡ flat_map (object_imports p.path) p.objects
unfolding imports_of package_imports
imports_one p = flat_map-cons package_imports p [] ∙ append-nil (package_imports p)

pub package_end : (world : List Package) (p n : ℕ) (refs : List ImportRef) → p < length world → length (get_or world p no_package).objects ≤ n
    → ArePlacesUpTo world p n refs → AreImportsOf world (take (p + 1) world) refs
package_end world p n refs l g are = record {
  each = are.each;
  same =
      are.same ∙ ap (λ os. imports_of (take p world) ++ flat_map (object_imports q.path) os) (take_all n q.objects g)
      ∙ ap (λ xs. imports_of (take p world) ++ xs) (sym (imports_one q)) ∙ sym (imports_append (take p world) (q ∷ []))
      ∙ ap imports_of (sym (ap (λ k. take k world) (add-one p) ∙ take-suc world p no_package l));
}
  where
    q : Package
    q = get_or world p no_package

pub places_all : (world : List Package) (p : ℕ) (refs : List ImportRef) → length world ≤ p → AreImportsOf world (take p world) refs → AreImportsOf world world refs
places_all world p refs g are = subst (λ (w : List Package). AreImportsOf world w refs) (take_all p world g) are

-- refs stand where packages are added behind

map_same : {A B : Type 0} (f g : A → B) (xs : List A) → All (λ x. f x ≡ g x) xs → map f xs ≡ map g xs
map_same f g [] all = refl
map_same f g (x ∷ xs) all = ap (λ y. y ∷ map f xs) (All-head (λ y. f y ≡ g y) x xs all) ∙ ap (λ ys. g x ∷ ys) (map_same f g xs (All-tail (λ y. f y ≡ g y) x xs all))

place_moved : (list wave : List Package) (p : ImportRef) → IsImportRef list p → (IsImportRef (list ++ wave) p) × (import_by (list ++ wave) p ≡ import_by list p)
place_moved list wave p is =
    let same : get_or (list ++ wave) p.owner no_package ≡ get_or list p.owner no_package = get_or_append_left list wave no_package p.owner is.owner in
    let P : Package → Type 0 = λ q. p.object < length q.objects in
    let Q : Package → Type 0 = λ q. p.entry < count (get_or q.objects p.object []) autolib in (
      record { owner = omega (arith, is.owner, length-append list wave); object = subst P (sym same) is.object; entry = subst Q (sym same) is.entry },
      ap (λ q. import_at q.path (get_or q.objects p.object []) p.entry) same,
    )

pub refs_moved : (list wave now : List Package) (n : ℕ) (refs : List ImportRef) → now ≡ list ++ wave → n ≡ length list → AreImportsOf list list refs → AreImportsOf now (take n now) refs
refs_moved list wave now n refs is count are =
    let front : take n now ≡ list = ap (λ k. take k now) count ∙ ap (take (length list)) is ∙ take-append_seam list wave in
    let here : AreImportsOf (list ++ wave) list refs =
    record {
      each = λ k d l. (place_moved list wave (get_or refs k d) (are.each k d l)).0;
      same = map_same (import_by (list ++ wave)) (import_by list) refs (λ k d l. (place_moved list wave (get_or refs k d) (are.each k d l)).1) ∙ are.same;
    }
    in
    subst (λ (w : List Package). AreImportsOf now w refs) (sym front) (subst (λ (w : List Package). AreImportsOf w list refs) (sym is) here)

pub refs_grow : (list wave now : List Package) (refs refs' : List ImportRef) → now ≡ list ++ wave → AreImportsOf list list refs → AreImportsOf now now refs' → length refs ≤ length refs'
refs_grow list wave now refs refs' is are later =
    let old = refs_long list refs are in
    let new = refs_long now refs' later in
    omega (arith, old, new, ap (λ w. length (imports_of w)) is, ap length (imports_append list wave), length-append (imports_of list) (imports_of wave))
