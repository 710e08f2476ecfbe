-- What is stored of the objects of a file.
use Rattle.std.proofs.Common.{◌≡◌, ◌<◌, ◌≤◌, ◌+◌, ◌++◌, ℕ, zero, suc, List, [], ◌∷◌, Option, length, take, get_or, map, All, slice_range, refl, sym, ap, subst, ◌∙◌, arith, add-one, drop, drop-cons, true, false, cond, Some, None, Ok}
use Rattle.std.specs.List.{sum_by, find}
use Rattle.std.specs.Option.{unwrap_or, option_or}
use Rattle.std.proofs.Math.ListN.{drop_of_length-le}
use Rattle.std.proofs.Math.Seq.{take-suc}
use Rattle.std.proofs.lemmas.List.{map-append, take_all}
use Rattle.std.proofs.lemmas.List.Sums.{sum_by-cons, sum_by-take-le, sum_by_push}
use Rattle.std.proofs.lemmas.List.Elements.{All-nil, All-cons, All-head, All-tail, All-append, All-map}
use Rattle.glk_obj.specs.Object.{IsObject}
use Rattle.glk_obj.specs.Records.{symbols, fingerprint, hash_width}
use Rattle.glk_package.specs.WidthRule.{first_width}
use Rattle.glk_package.specs.ObjectRules.{ObjectRules}
use Rattle.glk_package.specs.Package.{PackageFile}
use Rattle.glk_package.proofs.Room.{whole, fit}
use Rattle.glk_obj.proofs.Laws.{symbols_within}
use Rattle.glk_package.specs.ObjectEntry.{ObjectEntry, data_bytes}
use Rattle.glk_arena.specs.declared.stored.StoredObject.{StoredObject}
use Rattle.glk_arena.specs.World.{Package, package_of_file, package_symbols}
use Rattle.glk_arena.specs.Imports.{package_fingerprint, is_set, no_fingerprint}
use Rattle.glk_arena.specs.Stored.{IsStored, IsWhole, stored_data, first_set}

-- they are objects
pub stored_whole : (file : List ℕ) (objects : List StoredObject) → All (IsStored file) objects → All IsObject (map (stored_data file) objects)
stored_whole file [] all = All-nil IsObject
stored_whole file (h ∷ objects) all =
    All-cons IsObject (stored_data file h) (map (stored_data file) objects) ((All-head (IsStored file) h objects all).fits.object) (stored_whole file objects (All-tail (IsStored file) h objects all))

-- object i
pub stored_at : (file : List ℕ) (objects : List StoredObject) (i : ℕ) (d : StoredObject) → i < length objects
    → get_or (map (stored_data file) objects) i [] ≡ slice_range file (get_or objects i d).at (get_or objects i d).end
stored_at file [] i d l = absurd (omega (arith, l))
stored_at file (h ∷ objects) zero d l = refl
stored_at file (h ∷ objects) (suc i) d l = stored_at file objects i d (omega (arith, l))

-- the bytes of the objects of a file
pub bytes_are : (objects : List ObjectEntry) → sum_by length (map (λ o. o.goobj) objects) ≡ data_bytes objects
unfolding data_bytes
bytes_are [] = refl
bytes_are (o ∷ objects) = sum_by-cons length o.goobj (map (λ q. q.goobj) objects) ∙ ap (λ n. length o.goobj + n) (bytes_are objects)

-- the package of a file is whole
pub file_whole : (rules : ObjectRules) (path file : List ℕ) (objects : List ObjectEntry) → PackageFile rules file (Ok objects) → IsWhole (package_of_file path file objects)
file_whole rules path file objects h = record {
  objects = All-map IsObject (λ o. o.goobj) objects (whole rules file objects h);
  fit = omega (arith, bytes_are objects, fit rules file objects h);
}

-- an object has bytes
pub object_long : (object : List ℕ) → IsObject object → 0 < length object
object_long [] is = absurd (is.header_whole 0 (omega arith, refl))
object_long (b ∷ object) is = omega arith

-- so there are no more objects than bytes, and no more symbols
pub objects_within : (objects : List (List ℕ)) → All IsObject objects → length objects ≤ sum_by length objects
objects_within [] all = omega arith
objects_within (o ∷ objects) all =
    let here = object_long o (All-head IsObject o objects all) in
    let behind = objects_within objects (All-tail IsObject o objects all) in
    omega (arith, here, behind, sum_by-cons length o objects)

pub symbols_below : (objects : List (List ℕ)) → All IsObject objects → sum_by symbols objects ≤ sum_by length objects
symbols_below [] all = omega arith
symbols_below (o ∷ objects) all =
    let here = symbols_within o (All-head IsObject o objects all) in
    let behind = symbols_below objects (All-tail IsObject o objects all) in
    omega (arith, here, behind, sum_by-cons symbols o objects, sum_by-cons length o objects)

pub package_objects : (p : Package) → IsWhole p → length p.objects ≤ length p.file
package_objects p whole = omega (arith, objects_within p.objects whole.objects, whole.fit)

pub package_rows : (p : Package) → IsWhole p → package_symbols p ≤ length p.file
unfolding package_symbols
package_rows p whole = omega (arith, symbols_below p.objects whole.objects, whole.fit)

pub front_rows : (p : Package) (i : ℕ) → sum_by symbols (take i p.objects) ≤ package_symbols p
unfolding package_symbols
front_rows p i = sum_by-take-le symbols p.objects i

-- one object more
pub stored_more : (file : List ℕ) (kept now : List StoredObject) (objects : List ObjectEntry) (i : ℕ) (object : ObjectEntry) (h : StoredObject) → i < length objects → object ≡ get_or objects i object
    → stored_data file h ≡ object.goobj → IsStored file h → map (stored_data file) kept ≡ map (λ o. o.goobj) (take i objects) → All (IsStored file) kept → now ≡ kept ++ h ∷ []
    → (map (stored_data file) now ≡ map (λ o. o.goobj) (take (i + 1) objects)) × All (IsStored file) now
stored_more file kept now objects i object h l read same holds before all more =
    let cut : take (i + 1) objects ≡ take i objects ++ object ∷ [] = rw (add-one i) (take-suc objects i object l ∙ ap (λ o. take i objects ++ o ∷ []) (sym read)) in
    let P : List StoredObject → Type 0 = λ hs. All (IsStored file) hs in (
      ap (map (stored_data file)) more ∙ map-append (stored_data file) kept (h ∷ []) ∙ ap (λ os. os ++ stored_data file h ∷ []) before
          ∙ ap (λ o. map (λ q. q.goobj) (take i objects) ++ o ∷ []) same
          ∙ sym (map-append (λ o. o.goobj) (take i objects) (object ∷ [])) ∙ ap (map (λ o. o.goobj)) (sym cut),
      subst P (sym more) (All-append (IsStored file) kept (h ∷ []) all (All-cons (IsStored file) h [] holds (All-nil (IsStored file)))),
    )

-- the symbols of one object more, and of all
pub symbols_more : (p : Package) (i before : ℕ) (object : List ℕ) (some : ℕ) → i < length p.objects → before ≡ sum_by symbols (take i p.objects)
    → object ≡ get_or p.objects i [] → some ≡ symbols object → before + some ≡ sum_by symbols (take (i + 1) p.objects)
symbols_more p i before object some l is read count =
    let cut : take (i + 1) p.objects ≡ take i p.objects ++ get_or p.objects i [] ∷ [] = rw (add-one i) (take-suc p.objects i [] l) in
    let sums = ap (λ os. sum_by symbols os) cut ∙ sum_by_push symbols (take i p.objects) (get_or p.objects i []) in
    omega (arith, is, count, ap (λ o. symbols o) read, sums)

pub symbols_all : (p : Package) (i before : ℕ) → length p.objects ≤ i → before ≡ sum_by symbols (take i p.objects) → before ≡ package_symbols p
unfolding package_symbols
symbols_all p i before g is = is ∙ ap (λ os. sum_by symbols os) (take_all i p.objects g)

-- the first fingerprint of an object and the later ones
pub print_step : (file : List ℕ) (objects : List StoredObject) (i : ℕ) (d : StoredObject) (print : List ℕ) → i < length objects → print ≡ fingerprint (slice_range file (get_or objects i d).at (get_or objects i d).end)
    → (is_set print ≡ true → first_set (map (stored_data file) (drop i objects)) ≡ print) × (is_set print ≡ false → first_set (map (stored_data file) (drop i objects)) ≡ first_set (map (stored_data file) (drop (i + 1) objects)))
unfolding first_set
print_step file objects i d print l is =
    let front : drop i objects ≡ get_or objects i d ∷ drop (suc i) objects = drop-cons objects i d l in
    let rest : List StoredObject = drop (suc i) objects in
    let seen : List (List ℕ) = map fingerprint (map (stored_data file) rest) in (
      λ told. ap (λ hs. first_set (map (stored_data file) hs)) front
          ∙ ap (λ x. unwrap_or (find is_set (x ∷ seen)) no_fingerprint) (sym is)
          ∙ ap (λ b. unwrap_or (cond b (Some print) (find is_set seen)) no_fingerprint) told,
      λ none. ap (λ hs. first_set (map (stored_data file) hs)) front
          ∙ ap (λ x. unwrap_or (find is_set (x ∷ seen)) no_fingerprint) (sym is)
          ∙ ap (λ b. unwrap_or (cond b (Some print) (find is_set seen)) no_fingerprint) none
          ∙ ap (λ k. first_set (map (stored_data file) (drop k objects))) (sym (add-one i)),
    )

pub print_end : (file : List ℕ) (objects : List StoredObject) (i : ℕ) → length objects ≤ i → first_set (map (stored_data file) (drop i objects)) ≡ no_fingerprint
unfolding first_set
print_end file objects i g = rw (drop_of_length-le objects g) refl

pub package_print : (p : Package) → package_fingerprint p ≡ first_set p.objects
unfolding package_fingerprint first_set
package_print p = refl

-- the long hashes of an object and the later ones
pub stored_width : (file : List ℕ) (objects : List StoredObject) (i : ℕ) (d : StoredObject) (width : Option ℕ) → i < length objects → width ≡ hash_width (slice_range file (get_or objects i d).at (get_or objects i d).end)
    → first_width (map (stored_data file) (drop i objects)) ≡ option_or width (first_width (map (stored_data file) (drop (i + 1) objects)))
stored_width file objects i d width l is =
    ap (λ hs. first_width (map (stored_data file) hs)) (drop-cons objects i d l)
    ∙ ap (λ w. option_or w (first_width (map (stored_data file) (drop (suc i) objects)))) (sym is)
    ∙ ap (λ k. option_or width (first_width (map (stored_data file) (drop k objects)))) (sym (add-one i))

pub stored_width_end : (file : List ℕ) (objects : List StoredObject) (i : ℕ) → length objects ≤ i → first_width (map (stored_data file) (drop i objects)) ≡ None
stored_width_end file objects i g = rw (drop_of_length-le objects g) refl
