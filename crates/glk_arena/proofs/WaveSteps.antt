-- One wave of loading, over plain lists.
use Rattle.std.proofs.Common.{◌≡◌, ◌<◌, ◌≤◌, ◌+◌, ◌-◌, ◌++◌, ◌∷◌, ◌||◌, ◌&&◌, not, [], ℕ, zero, suc, Bool, true, false, List, length, get_or, map, take, drop, cond, All, refl, ap, sym, subst, ◌∙◌, arith, append_assoc, Option, Some, None, Result, Ok, Err, inl, inr, true≢false, length-append, lit≤}
use Rattle.std.specs.Result.{IsErrAnd, IfErr}
use Rattle.std.specs.List.{find, flat_map, range_with_len}
use Rattle.std.specs.Option.{option_map, is_none, option_or}
use Rattle.std.specs.Str.{bytes_eq}
use Rattle.std.specs.Cmp.Lexicographic.{bytes_decides}
use Rattle.std.proofs.Math.Seq.{take-append_seam, drop-append_seam}
use Rattle.std.proofs.lemmas.Bool.{false≢true}
use Rattle.std.proofs.lemmas.List.{append-nil, map-append, length-map, take-append-le, take-append-drop, nil_from_length}
use Rattle.std.proofs.lemmas.List.Folds.{find-append, list_any-append}
use Rattle.std.proofs.lemmas.List.Elements.{All-nil, All-cons, All-head, All-tail, All-append, All-map, All-take, All-drop}
use Rattle.std.proofs.lemmas.List.Concat.{flat_map-cons}
use Rattle.glk_cause.specs.declared.cause.Cause.{Cause}
use Rattle.glk_cause.specs.declared.cause.Cause.TheVariants as cause
use Rattle.glk_cause.specs.declared.cause.Limit.TheVariants as limit
use Rattle.glk_base.specs.declared.fault.Fault.{Fault}
use Rattle.glk_base.specs.declared.fault.Fault.TheVariants as fault
use Rattle.glk_io.specs.Contents.{Contents, IfKnown}
use Rattle.glk_io.specs.Changes.{FileState, FilesUnchanged}
use Rattle.glk_cause.specs.Sorts.{Sort, of_package, of_link, sort_of}
use Rattle.glk_cause.specs.Chain.{stops, goes_on, finds, clear}
use Rattle.glk_cause.specs.Reading.{Refuses}
use Rattle.glk_cause.proofs.ReadingLaws.{always, always_known, reading_stopped}
use Rattle.glk_obj.specs.Blocks.{count, autolib}
use Rattle.glk_package.specs.ObjectRules.{ObjectRules, rules_after}
use Rattle.glk_package.specs.declared.refusal.PackageBad.{PackageBad}
use Rattle.glk_package.specs.declared.refusal.PackageBad.TheVariants as bad
use Rattle.glk_package.specs.PackageRefusal.{refusal_of, IsRefusedFor}
use Rattle.glk_arena.specs.declared.imports.ImportRef.{ImportRef}
use Rattle.glk_arena.specs.World.{Package, rules_so_far, paths_of, file_bytes, package_limit}
use Rattle.glk_base.specs.Limits.{file_limit}
use Rattle.glk_arena.specs.Imports.{Import, imports_of, package_imports, object_imports, import_at, is_among, unsafe_package, fingerprint_in, is_compared, is_unequal, first_unequal}
use Rattle.glk_arena.specs.ImportRefs.{AreImportsOf, IsImportRef}
use Rattle.glk_arena.specs.Waves.{LoadInputs, Reads, Formats, broken, broken_later, FormatsAfter, Wave, Loads, refused, last, crowded, further, IsLoad, first_wave, next_wave, first_uses, listed_count, is_known, is_missing, fingerprint_refusal, missing_refusal, main_package, runtime_package, file_of, IsPackagePath, IsOfPackages}
use Rattle.glk_arena.specs.LoadParts.{HasFile, ReadsPaths, WaveTo, ReadsWave, RefusesWave, RefusesLoad, unequal_from, missing_from, import_refusal_of}
use Rattle.glk_arena.proofs.ReadLemmas.{main_lies, other_lies}
use Rattle.glk_arena.proofs.FormatLemmas.{formats_paths}
use Rattle.glk_arena.proofs.ImportRefLemmas.{imports_append, refs_long}
use Rattle.std.proofs.lemmas.List.{drop-map}
use Rattle.glk_arena.specs.WaveLoop.{IsKnown, LoadsOn, IsBetweenWaves, AddsPackages}
use Rattle.glk_arena.proofs.ImportLemmas.{missing_is, grown, grown_passed, grown_new, grown_nil}

-- the first wave
pub first_listed : (listed : List ℕ → Option (List ℕ)) (file : List ℕ) → listed runtime_package ≡ Some file → first_wave listed ≡ main_package ∷ runtime_package ∷ []
unfolding first_wave
first_listed listed file e = rw e refl

pub first_alone : (listed : List ℕ → Option (List ℕ)) → listed runtime_package ≡ None → first_wave listed ≡ main_package ∷ []
unfolding first_wave
first_alone listed e = rw e refl

-- parts 1 and 2
read_refused_at : {C : Type 0} (inputs : LoadInputs) (old new : FileState) (earlier : List Package) (paths : List (List ℕ)) (view : C → List (List ℕ)) (f : Fault Cause)
    → ReadsPaths old new inputs (file_limit - file_bytes earlier) paths view (Err f) → RefusesWave old new inputs earlier paths f
read_refused_at inputs old new earlier paths view f is =
    reading_stopped old new (IsOfPackages inputs) (IsOfPackages inputs) (λ held. Reads inputs held (file_limit - file_bytes earlier) paths) (λ held. Wave inputs held earlier paths) view (λ (wave : List Package). wave)
    (λ s h. h) (always old.contents (λ held refusal r. stops refusal r)) f is

pub read_refused : {C : Type 0} (inputs : LoadInputs) (old new : FileState) (earlier : List Package) (names : List (List ℕ)) (from left : ℕ) (view : C → List (List ℕ)) (f : Fault Cause)
    → from ≡ length earlier → left ≡ file_limit - file_bytes earlier
    → ReadsPaths old new inputs left (drop from names) view (Err f) → RefusesWave old new inputs earlier (drop (length earlier) names) f
read_refused {C} inputs old new earlier names from left view f is_from is_left is =
    let A : ℕ → ℕ → Type 0 = λ a b. ReadsPaths {C = C} old new inputs b (drop a names) view (Err f) in
    read_refused_at inputs old new earlier (drop (length earlier) names) view f (subst (λ (b : ℕ). A (length earlier) b) is_left (subst (λ (a : ℕ). A a left) is_from is))

-- a refusal for a format is that of one of the files
record IsOfFile (inputs : LoadInputs) (paths : List (List ℕ)) (c : Cause) : Type 0 where
  index : ℕ
  inside : index < length paths
  bad : PackageBad
  is : c ≡ refusal_of (file_of inputs (get_or paths index [])) bad

of_one_file : (inputs : LoadInputs) (wanted : ObjectRules) (paths files : List (List ℕ)) (c : Cause) → Formats inputs wanted paths files (Err c) → IsOfFile inputs paths c
of_one_file inputs wanted paths files c (broken w p ps f fs fault is) = record { index = 0; inside = omega (arith); bad = fault; is = refl }
of_one_file inputs wanted paths files c (broken_later w p ps f fs objects refusal is rest) =
    let of = of_one_file inputs (rules_after wanted objects) ps fs c rest in
    let inside = of.inside in
    record { index = suc of.index; inside = omega (arith, inside); bad = of.bad; is = of.is }

sort_of_bad : (path : List ℕ) (first : PackageBad) → sort_of (refusal_of path first) ≡ of_package path
sort_of_bad path (bad.NotGo member) = refl
sort_of_bad path (bad.HeaderMismatch member first here) = refl
sort_of_bad path (bad.Malformed member family rule offset) = refl

pub format_refused : (inputs : LoadInputs) (old new : FileState) (earlier : List Package) (names files : List (List ℕ)) (f : Fault Cause)
    → FilesUnchanged old new → All (HasFile inputs) names
    → IfKnown old.contents (λ held. Reads inputs held (file_limit - file_bytes earlier) (drop (length earlier) names) (Ok files))
    → IsRefusedFor (λ refusal. FormatsAfter inputs earlier (drop (length earlier) names) files (Err refusal)) f
    → RefusesWave old new inputs earlier (drop (length earlier) names) f
format_refused inputs old new earlier names files (fault.Bad c) same all r is =
    let paths : List (List ℕ) = drop (length earlier) names in
    let of = of_one_file inputs (rules_so_far earlier) paths files c is in
    let sort : sort_of c ≡ of_package (file_of inputs (get_or paths of.index [])) = ap sort_of of.is ∙ sort_of_bad _ of.bad in
    let has : HasFile inputs (get_or paths of.index []) = All-drop (HasFile inputs) (length earlier) names all of.index [] of.inside in
    let S : Sort → Type 0 = λ s. IsOfPackages inputs s × Refuses old new (WaveTo inputs old.contents earlier paths (Err c)) s in
    subst S (sym sort) (has, (same, always_known _ _ old.contents (λ held read. goes_on files _ read (stops c is)) r))
format_refused inputs old new earlier names files fault.OutOfMemory same all r is = same

-- a `?` hands an error on, of which this holds
pub err_exit : {B : Type 0} (Q : Fault Cause → Type 0) (r : Result B (Fault Cause)) (e : Fault Cause) → IsErrAnd r (λ f. f ≡ e) → Q e → IfErr r Q
err_exit Q (Ok x) e was h = tt
err_exit Q (Err f) e was h = subst Q (sym was) h

-- which imports were compared before

find_none_all : (test : Import → Bool) (xs : List Import) → All (λ i. test i ≡ false) xs → find test xs ≡ None
find_none_all test [] all = refl
find_none_all test (x ∷ xs) all =
    ap (λ b. cond b (Some x) (find test xs)) (All-head (λ i. test i ≡ false) x xs all) ∙ find_none_all test xs (All-tail (λ i. test i ≡ false) x xs all)

find_later : (test : Import → Bool) (k : ℕ) (xs : List Import) → All (λ i. test i ≡ false) (take k xs) → find test xs ≡ find test (drop k xs)
find_later test k xs all =
    ap (find test) (sym (take-append-drop k xs)) ∙ find-append test (take k xs) (drop k xs) ∙ ap (λ o. option_or o (find test (drop k xs))) (find_none_all test (take k xs) all)

same_path : (a : List ℕ) → bytes_eq a a ≡ true
same_path a = (bytes_decides a a).1 refl

or_right : (a b : Bool) → b ≡ true → (a || b) ≡ true
or_right true b h = refl
or_right false b h = h

object_importers : (path : List ℕ) (paths : List (List ℕ)) (object : List ℕ) → All (λ i. is_among (path ∷ paths) i.importer ≡ true) (object_imports path object)
unfolding object_imports
object_importers path paths object =
    All-map (λ i. is_among (path ∷ paths) i.importer ≡ true) (import_at path object) (range_with_len 0 (count object autolib)) (λ k d l. ap (λ b. b || is_among paths path) (same_path path))

no_importers : All (λ i. is_among (paths_of []) i.importer ≡ true) (imports_of [])
unfolding imports_of
no_importers = All-nil (λ i. is_among (paths_of []) i.importer ≡ true)

imports_cons : (p : Package) (world : List Package) → imports_of (p ∷ world) ≡ package_imports p ++ imports_of world
unfolding imports_of
imports_cons p world = flat_map-cons package_imports p world

importers_of : (p : Package) (paths : List (List ℕ)) (objects : List (List ℕ)) → All (λ i. is_among (p.path ∷ paths) i.importer ≡ true) (flat_map (object_imports p.path) objects)
importers_of p paths [] = All-nil (λ i. is_among (p.path ∷ paths) i.importer ≡ true)
importers_of p paths (o ∷ objects) =
    let P : Import → Type 0 = λ i. is_among (p.path ∷ paths) i.importer ≡ true in
    subst (λ (is : List Import). All P is) (sym (flat_map-cons (object_imports p.path) o objects))
    (All-append P (object_imports p.path o) (flat_map (object_imports p.path) objects) (one o) (importers_of p paths objects))
  where
    one : (object : List ℕ) → All (λ i. is_among (p.path ∷ paths) i.importer ≡ true) (object_imports p.path object)
    one object = object_importers p.path paths object

package_importers : (p : Package) (paths : List (List ℕ)) → All (λ i. is_among (p.path ∷ paths) i.importer ≡ true) (package_imports p)
unfolding package_imports
package_importers p paths = importers_of p paths p.objects

pub importers : (world : List Package) → All (λ i. is_among (paths_of world) i.importer ≡ true) (imports_of world)
importers [] = no_importers
importers (p ∷ world) =
    let P : Import → Type 0 = λ i. is_among (p.path ∷ paths_of world) i.importer ≡ true in
    subst (λ (is : List Import). All P is) (sym (imports_cons p world))
    (All-append P (package_imports p) (imports_of world) (package_importers p (paths_of world))
    (λ k d l. or_right (bytes_eq (get_or (imports_of world) k d).importer p.path) (is_among (paths_of world) (get_or (imports_of world) k d).importer) (importers world k d l)))

due_false : (among_now among_importer among_before is_unsafe : Bool) → among_importer ≡ true → (is_unsafe || among_before) ≡ true → (is_unsafe ≡ true → among_now ≡ false) → (among_now && not (among_importer && among_before)) ≡ false
due_false true true true u i k c = refl
due_false true true false true i k c = absurd (true≢false (c refl))
due_false true true false false i k c = absurd (false≢true k)
due_false true false b u i k c = absurd (false≢true i)
due_false false i b u h k c = refl

not_due : (earlier names : List (List ℕ)) (i : Import) → is_among names unsafe_package ≡ false → is_known earlier i.imported ≡ true → is_among earlier i.importer ≡ true → is_compared earlier names i ≡ false
unfolding is_compared
not_due earlier names i clean known importer =
    due_false (is_among names i.imported) (is_among earlier i.importer) (is_among earlier i.imported) (bytes_eq i.imported unsafe_package) importer known
    (λ u. ap (is_among names) ((bytes_decides i.imported unsafe_package).0 u) ∙ clean)

-- what is listed next

or_more : (a b c : Bool) → (a || b) ≡ true → (a || (b || c)) ≡ true
or_more true b c h = refl
or_more false true c h = refl
or_more false false c h = absurd (false≢true h)

pub known_more : (known more : List (List ℕ)) (name : List ℕ) → is_known known name ≡ true → is_known (known ++ more) name ≡ true
known_more known more name h = ap (λ b. bytes_eq name unsafe_package || b) (list_any-append (bytes_eq name) known more) ∙ or_more (bytes_eq name unsafe_package) (is_among known name) (is_among more name) h

or_both : (a b : Bool) → (a || (b || true)) ≡ true
or_both true b = refl
or_both false true = refl
or_both false false = refl

known_last : (known : List (List ℕ)) (name : List ℕ) → is_known (known ++ name ∷ []) name ≡ true
known_last known name =
    ap (λ b. bytes_eq name unsafe_package || b) (list_any-append (bytes_eq name) known (name ∷ []))
    ∙ ap (λ b. bytes_eq name unsafe_package || (is_among known name || (b || false))) (same_path name)
    ∙ or_both (bytes_eq name unsafe_package) (is_among known name)

abbrev pub names_in : List Import → List (List ℕ)
names_in imports = map (λ i. i.imported) imports

-- each import is known behind what a list of imports adds
pub all_known : (known : List (List ℕ)) (imports : List Import) → All (λ i. is_known (grown known (names_in imports)) i.imported ≡ true) imports
all_known known [] = All-nil (λ i. is_known (grown known []) i.imported ≡ true)
all_known known (i ∷ imports) = by_test (λ k. all_known k imports) (is_known known i.imported) refl where
  by_test : ((k : List (List ℕ)) → All (λ j. is_known (grown k (names_in imports)) j.imported ≡ true) imports) → (b : Bool) → is_known known i.imported ≡ b
      → All (λ j. is_known (grown known (names_in (i ∷ imports))) j.imported ≡ true) (i ∷ imports)
  by_test ih true e =
      let same = grown_passed known (names_in imports) i.imported e in
      let P : List (List ℕ) → Type 0 = λ ns. All (λ j. is_known ns j.imported ≡ true) (i ∷ imports) in
      subst P (sym same) (All-cons (λ j. is_known (grown known (names_in imports)) j.imported ≡ true) i imports (known_more known (first_uses known (names_in imports)) i.imported e) (ih known))
  by_test ih false e =
      let same = grown_new known (names_in imports) i.imported e in
      let next : List (List ℕ) = known ++ i.imported ∷ [] in
      let P : List (List ℕ) → Type 0 = λ ns. All (λ j. is_known ns j.imported ≡ true) (i ∷ imports) in
      subst P (sym same) (All-cons (λ j. is_known (grown next (names_in imports)) j.imported ≡ true) i imports (known_more next (first_uses next (names_in imports)) i.imported (known_last known i.imported)) (ih next))

or_none : (a b : Bool) → (a || b) ≡ false → (a ≡ false) × (b ≡ false)
or_none true b h = absurd (true≢false h)
or_none false b h = (refl, h)

turned : (a b : List ℕ) → bytes_eq a b ≡ false → bytes_eq b a ≡ false
turned a b h = by_test (bytes_eq b a) refl where
  by_test : (t : Bool) → bytes_eq b a ≡ t → bytes_eq b a ≡ false
  by_test false e = e
  by_test true e = absurd (true≢false (sym ((bytes_decides a b).1 (sym ((bytes_decides b a).0 e))) ∙ h))

-- `unsafe` is not listed
pub all_clean : (known names : List (List ℕ)) → is_among known unsafe_package ≡ false → is_among (grown known names) unsafe_package ≡ false
all_clean known [] clean = ap (λ l. is_among l unsafe_package) (grown_nil known) ∙ clean
all_clean known (name ∷ names) clean = by_test (λ k c. all_clean k names c) (is_known known name) refl where
  by_test : ((k : List (List ℕ)) → is_among k unsafe_package ≡ false → is_among (grown k names) unsafe_package ≡ false) → (b : Bool) → is_known known name ≡ b → is_among (grown known (name ∷ names)) unsafe_package ≡ false
  by_test ih true e = ap (λ l. is_among l unsafe_package) (grown_passed known names name e) ∙ ih known clean
  by_test ih false e =
      let other = turned name unsafe_package (or_none (bytes_eq name unsafe_package) (is_among known name) e).0 in
      ap (λ l. is_among l unsafe_package) (grown_new known names name e)
      ∙ ih (known ++ name ∷ []) (list_any-append (bytes_eq unsafe_package) known (name ∷ []) ∙ ap (λ b. b || (bytes_eq unsafe_package name || false)) clean ∙ ap (λ b. b || false) other)

-- a listed package has a file
listed_file : (inputs : LoadInputs) (name : List ℕ) → is_none (inputs.listed name) ≡ false → HasFile inputs name
listed_file inputs name some = by_main (bytes_eq name main_package) refl where
  by_listed : (o : Option (List ℕ)) → inputs.listed name ≡ o → is_none o ≡ false → bytes_eq name main_package ≡ false → IsPackagePath inputs.main inputs.listed (file_of inputs name)
  by_listed None e n other = absurd (true≢false n)
  by_listed (Some file) e n other =
      let is : file_of inputs name ≡ file = other_lies inputs name (Some file) other e in inr (name, e ∙ ap (λ f. Some f) (sym is))

  by_main : (b : Bool) → bytes_eq name main_package ≡ b → IsPackagePath inputs.main inputs.listed (file_of inputs name)
  by_main true e = inl (main_lies inputs name e)
  by_main false e = by_listed (inputs.listed name) refl some e

-- an import that is not missing is known, or listed
missing_none : (listed : List ℕ → Option (List ℕ)) (names : List (List ℕ)) (i : Import) → is_missing listed names i ≡ false → is_known names i.imported ≡ false → is_none (listed i.imported) ≡ false
missing_none listed names i found new = sym (missing_is listed names i false new) ∙ found

-- each path has a file that is listed by imports that are not missing
pub all_files : (inputs : LoadInputs) (names extra : List (List ℕ)) (imports : List Import) → All (λ i. is_missing inputs.listed names i ≡ false) imports
    → All (HasFile inputs) (names ++ extra) → All (HasFile inputs) (grown (names ++ extra) (names_in imports))
all_files inputs names extra [] found files = subst (λ (l : List (List ℕ)). All (HasFile inputs) l) (sym (grown_nil (names ++ extra))) files
all_files inputs names extra (i ∷ imports) found files =
    by_test (λ e f. all_files inputs names e imports (All-tail (λ j. is_missing inputs.listed names j ≡ false) i imports found) f) (is_known (names ++ extra) i.imported) refl
  where
    by_test : ((e : List (List ℕ)) → All (HasFile inputs) (names ++ e) → All (HasFile inputs) (grown (names ++ e) (names_in imports))) → (b : Bool) → is_known (names ++ extra) i.imported ≡ b
        → All (HasFile inputs) (grown (names ++ extra) (names_in (i ∷ imports)))
    by_test ih true e = subst (λ (l : List (List ℕ)). All (HasFile inputs) l) (sym (grown_passed (names ++ extra) (names_in imports) i.imported e)) (ih extra files)
    by_test ih false e =
        let A : List (List ℕ) → Type 0 = λ l. All (HasFile inputs) l in
        let new : is_known names i.imported ≡ false = not_before (is_known names i.imported) refl in
        let file = listed_file inputs i.imported (missing_none inputs.listed names i (All-head (λ j. is_missing inputs.listed names j ≡ false) i imports found) new) in
        let longer : (names ++ extra) ++ i.imported ∷ [] ≡ names ++ (extra ++ i.imported ∷ []) = append_assoc names extra (i.imported ∷ []) in
        let more : A ((names ++ extra) ++ i.imported ∷ []) = All-append (HasFile inputs) (names ++ extra) (i.imported ∷ []) files (All-cons (HasFile inputs) i.imported [] file (All-nil (HasFile inputs))) in
        subst A (sym (grown_new (names ++ extra) (names_in imports) i.imported e))
        (subst (λ (l : List (List ℕ)). A (grown l (names_in imports))) (sym longer) (ih (extra ++ i.imported ∷ []) (subst A longer more)))
      where
        not_before : (t : Bool) → is_known names i.imported ≡ t → is_known names i.imported ≡ false
        not_before false f = f
        not_before true f = absurd (true≢false (sym (known_more names extra i.imported f) ∙ e))

-- one wave without a refusal

or_both_none : {A : Type 0} (a b : Option A) → None ≡ option_or a b → (a ≡ None) × (b ≡ None)
or_both_none None b h = (refl, sym h)
or_both_none (Some x) b h = absurd (cc)

map_none : {A B : Type 0} (f : A → B) (o : Option A) → option_map f o ≡ None → o ≡ None
map_none f None h = refl
map_none f (Some x) h = absurd (cc)

none_found : (test : Import → Bool) (xs : List Import) → find test xs ≡ None → All (λ i. test i ≡ false) xs
none_found test [] none = All-nil (λ i. test i ≡ false)
none_found test (x ∷ xs) none = by_test (λ n. none_found test xs n) (test x) refl none where
  by_test : (find test xs ≡ None → All (λ i. test i ≡ false) xs) → (b : Bool) → test x ≡ b → find test (x ∷ xs) ≡ None → All (λ i. test i ≡ false) (x ∷ xs)
  by_test ih true e n = absurd (let s : Some x ≡ None = sym (ap (λ b. cond b (Some x) (find test xs)) e) ∙ n in cc)
  by_test ih false e n = All-cons (λ i. test i ≡ false) x xs e (ih (sym (ap (λ b. cond b (Some x) (find test xs)) e) ∙ n))

-- what is known of a wave that was read
pub record IsReadWave (inputs : LoadInputs) (names : List (List ℕ)) (list wave now : List Package) (compared known : ℕ) : Type 0 where
  pub now_is : now ≡ list ++ wave
  pub paths : paths_of now ≡ names
  pub earlier : paths_of list ≡ take (length list) names
  pub counted : known ≡ length (imports_of list)
  pub front : take known (imports_of now) ≡ imports_of list
  pub rest : drop known (imports_of now) ≡ imports_of wave
  pub unequal_is : fingerprint_refusal list wave ≡ unequal_from now names (length list) (drop compared (imports_of now))
  pub missing_is : missing_refusal inputs.listed list wave ≡ missing_from inputs.listed names (drop known (imports_of now))

unequal_same : (list wave : List Package) (names : List (List ℕ)) (compared : ℕ) → paths_of (list ++ wave) ≡ names → paths_of list ≡ take (length list) names
    → is_among names unsafe_package ≡ false → compared ≤ length (imports_of list) → All (IsKnown (paths_of list)) (take compared (imports_of list))
    → fingerprint_refusal list wave ≡ unequal_from (list ++ wave) names (length list) (drop compared (imports_of (list ++ wave)))
unfolding first_unequal
unequal_same list wave names compared paths earlier clean within closed =
    let world : List Package = list ++ wave in
    let test : List (List ℕ) → List (List ℕ) → Import → Bool = λ before now i. is_compared before now i && is_unequal world i in
    let front : take compared (imports_of world) ≡ take compared (imports_of list) =
    ap (take compared) (imports_append list wave) ∙ take-append-le compared (imports_of list) (imports_of wave) within in
    let known : All (IsKnown (paths_of list)) (take compared (imports_of world)) = subst (λ (is : List Import). All (IsKnown (paths_of list)) is) (sym front) closed in
    let own : All (λ i. is_among (paths_of list) i.importer ≡ true) (take compared (imports_of world)) =
    subst (λ (is : List Import). All (λ i. is_among (paths_of list) i.importer ≡ true) is) (sym front) (All-take (λ i. is_among (paths_of list) i.importer ≡ true) compared (imports_of list) (importers list)) in
    let none : All (λ i. test (paths_of list) names i ≡ false) (take compared (imports_of world)) =
    λ k d l.
    let i : Import = get_or (take compared (imports_of world)) k d in
    ap (λ b. b && is_unequal world i) (not_due (paths_of list) names i clean (known k d l) (own k d l)) in
    let refusal : Import → Cause = λ i. cause.Fingerprint i.importer i.imported i.wanted (fingerprint_in world i.imported) in
    ap (λ now. option_map refusal (find (test (paths_of list) now) (imports_of world))) paths
    ∙ ap (option_map refusal) (find_later (test (paths_of list) names) compared (imports_of world) none)
    ∙ ap (λ before. option_map refusal (find (test before names) (drop compared (imports_of world)))) earlier

pub wave_read : (inputs : LoadInputs) (contents : Option Contents) (names : List (List ℕ)) (list now : List Package) (refs : List ImportRef) (compared : ℕ)
    → IsBetweenWaves inputs contents names list refs compared → (r : ReadsWave inputs contents list (drop (length list) names) now)
    → IsReadWave inputs names list r.adds.wave now compared (length refs)
wave_read inputs contents names list now refs compared s r = record {
  now_is = r.adds.now_is;
  paths = paths;
  earlier = s.paths;
  counted = counted;
  front = ap (take (length refs)) split ∙ ap (λ k. take k (imports_of list ++ imports_of r.adds.wave)) counted ∙ take-append_seam (imports_of list) (imports_of r.adds.wave);
  rest = rest;
  unequal_is =
      unequal_same list r.adds.wave names compared (ap paths_of (sym r.adds.now_is) ∙ paths) s.paths s.clean (omega (arith, s.within, counted)) s.closed
      ∙ ap (λ w. unequal_from w names (length list) (drop compared (imports_of w))) (sym r.adds.now_is);
  missing_is =
      ap (λ ns. missing_from inputs.listed ns (imports_of r.adds.wave)) (ap paths_of (sym r.adds.now_is) ∙ paths)
      ∙ ap (missing_from inputs.listed names) (sym rest);
}
  where
    wave_paths : paths_of r.adds.wave ≡ drop (length list) names
    wave_paths = formats_paths inputs (rules_so_far list) (drop (length list) names) r.files r.adds.wave r.adds.formats

    paths : paths_of now ≡ names
    paths =
        ap paths_of r.adds.now_is ∙ map-append (λ p. p.path) list r.adds.wave ∙ ap (λ ps. ps ++ paths_of r.adds.wave) s.paths
        ∙ ap (λ ps. take (length list) names ++ ps) wave_paths ∙ take-append-drop (length list) names

    counted : length refs ≡ length (imports_of list)
    counted = refs_long list refs s.refs_are

    split : imports_of now ≡ imports_of list ++ imports_of r.adds.wave
    split = ap imports_of r.adds.now_is ∙ imports_append list r.adds.wave

    rest : drop (length refs) (imports_of now) ≡ imports_of r.adds.wave
    rest = ap (drop (length refs)) split ∙ ap (λ k. drop k (imports_of list ++ imports_of r.adds.wave)) counted ∙ drop-append_seam (imports_of list) (imports_of r.adds.wave)

is_clear : (o : Option Cause) → o ≡ None → (refusal : Cause) → o ≡ Some refusal → ⊥
is_clear o none refusal some = cc

wave_good : (inputs : LoadInputs) (contents : Option Contents) (list wave : List Package) (paths files : List (List ℕ))
    → IfKnown contents (λ held. Reads inputs held (file_limit - file_bytes list) paths (Ok files)) → FormatsAfter inputs list paths files (Ok wave)
    → fingerprint_refusal list wave ≡ None → missing_refusal inputs.listed list wave ≡ None → WaveTo inputs contents list paths (Ok wave)
wave_good inputs contents list wave paths files r f u m =
    always_known _ _ contents (λ held read. goes_on files _ read (goes_on wave _ f (goes_on wave _ (clear (is_clear (fingerprint_refusal list wave) u)) (clear (is_clear (missing_refusal inputs.listed list wave) m))))) r

next_of : (list wave : List Package) (names : List (List ℕ)) → paths_of (list ++ wave) ≡ names → next_wave list wave ≡ first_uses names (names_in (imports_of wave))
unfolding next_wave
next_of list wave names e = ap (λ ns. first_uses ns (names_in (imports_of wave))) e

-- the wave has no refusal, and the next is listed
pub wave_done : (inputs : LoadInputs) (contents : Option Contents) (names more : List (List ℕ)) (list now : List Package) (refs refs' : List ImportRef) (compared : ℕ)
    → IsBetweenWaves inputs contents names list refs compared → ReadsWave inputs contents list (drop (length list) names) now → AreImportsOf now now refs' → length refs ≤ length refs'
    → None ≡ import_refusal_of now inputs.listed names (length list) compared (length refs)
    → more ≡ names ++ first_uses names (drop (length refs) (names_in (imports_of now)))
    → AddsPackages inputs contents names list (length refs) more refs' now
wave_done inputs contents names more list now refs refs' compared s r are longer none listed = record {
  wave = r.adds.wave;
  now_is = r.adds.now_is;
  paths = w.paths;
  good = wave_good inputs contents list r.adds.wave (drop (length list) names) r.files r.reads r.adds.formats (w.unequal_is ∙ (or_both_none _ _ none).0) (w.missing_is ∙ (or_both_none _ _ none).1);
  listed = next_is;
  refs_are = are;
  within = longer;
  closed = subst (λ (is : List Import). All (IsKnown names) is) (sym w.front) s.known;
  all_known = subst (λ (is : List Import). All (IsKnown more) is) (sym split) (All-append (IsKnown more) (imports_of list) (imports_of r.adds.wave) old new);
  clean = subst (λ (ns : List (List ℕ)). is_among ns unsafe_package ≡ false) (sym grows) (all_clean names (names_in (imports_of r.adds.wave)) s.clean);
  files = subst (λ (ns : List (List ℕ)). All (HasFile inputs) ns) (sym (grows ∙ ap (λ ns. grown ns (names_in (imports_of r.adds.wave))) (sym (append-nil names))))
      (all_files inputs names [] (imports_of r.adds.wave) found (subst (λ (ns : List (List ℕ)). All (HasFile inputs) ns) (sym (append-nil names)) s.files));
}
  where
    w : IsReadWave inputs names list r.adds.wave now compared (length refs)
    w = wave_read inputs contents names list now refs compared s r

    split : imports_of now ≡ imports_of list ++ imports_of r.adds.wave
    split = ap imports_of r.adds.now_is ∙ imports_append list r.adds.wave

    grows : more ≡ grown names (names_in (imports_of r.adds.wave))
    grows = listed ∙ ap (λ ns. names ++ first_uses names ns) (drop-map (λ i. i.imported) (length refs) (imports_of now) ∙ ap names_in w.rest)

    next_is : more ≡ names ++ next_wave list r.adds.wave
    next_is = grows ∙ ap (λ ns. names ++ ns) (sym (next_of list r.adds.wave names (ap paths_of (sym r.adds.now_is) ∙ w.paths)))

    old : All (IsKnown more) (imports_of list)
    old k d l = ap (λ ns. is_known ns (get_or (imports_of list) k d).imported) grows ∙ known_more names (first_uses names (names_in (imports_of r.adds.wave))) (get_or (imports_of list) k d).imported (s.known k d l)

    new : All (IsKnown more) (imports_of r.adds.wave)
    new = subst (λ (ns : List (List ℕ)). All (IsKnown ns) (imports_of r.adds.wave)) (sym grows) (all_known names (imports_of r.adds.wave))

    found : All (λ i. is_missing inputs.listed names i ≡ false) (imports_of r.adds.wave)
    found =
        none_found (is_missing inputs.listed names) (imports_of r.adds.wave)
        (ap (find (is_missing inputs.listed names)) (sym w.rest) ∙ map_none (λ i. cause.MissingPackage i.importer i.imported) (find (is_missing inputs.listed names) (drop (length refs) (imports_of now)))
        (or_both_none (unequal_from now names (length list) (drop compared (imports_of now))) (missing_from inputs.listed names (drop (length refs) (imports_of now))) none).1)

-- the wave has a refusal

pub wave_faulted : (inputs : LoadInputs) (old new : FileState) (names : List (List ℕ)) (list : List Package) (refs : List ImportRef) (compared : ℕ) (f : Fault Cause)
    → IsBetweenWaves inputs old.contents names list refs compared → RefusesWave old new inputs list (drop (length list) names) f → RefusesLoad old new inputs f
wave_faulted inputs old new names list refs compared f s is =
    reading_stopped old new (IsOfPackages inputs) (IsOfPackages inputs) (λ held. Wave inputs held list (drop (length list) names)) (IsLoad inputs) (λ (wave : List Package). wave) (λ (world : List Package). world)
    (λ sort h. h) (always_known _ _ old.contents (λ held more refusal h. more (Err refusal) (refused list (drop (length list) names) refusal h)) s.on) f is

wave_bad : (inputs : LoadInputs) (contents : Option Contents) (list wave : List Package) (paths files : List (List ℕ)) (refusal : Cause)
    → IfKnown contents (λ held. Reads inputs held (file_limit - file_bytes list) paths (Ok files)) → FormatsAfter inputs list paths files (Ok wave)
    → Some refusal ≡ option_or (fingerprint_refusal list wave) (missing_refusal inputs.listed list wave) → WaveTo inputs contents list paths (Err refusal)
wave_bad inputs contents list wave paths files refusal r f some = by_first (fingerprint_refusal list wave) refl some where
  by_first : (o : Option Cause) → fingerprint_refusal list wave ≡ o → Some refusal ≡ option_or o (missing_refusal inputs.listed list wave) → WaveTo inputs contents list paths (Err refusal)
  by_first None e is =
      always_known _ _ contents (λ held read. goes_on files _ read (goes_on wave _ f (goes_on wave _ (clear (is_clear (fingerprint_refusal list wave) e)) (finds refusal (sym is))))) r
  by_first (Some first) e is =
      always_known _ _ contents (λ held read. goes_on files _ read (goes_on wave _ f (stops refusal (finds refusal (e ∙ sym is))))) r

-- a refusal for an import is of files together
import_sort : (u m : Option Import) (print : Import → List ℕ) (refusal : Cause)
    → Some refusal ≡ option_or (option_map (λ i. cause.Fingerprint i.importer i.imported i.wanted (print i)) u) (option_map (λ i. cause.MissingPackage i.importer i.imported) m)
    → sort_of refusal ≡ of_link
import_sort (Some i) m print refusal e =
    let same : refusal ≡ cause.Fingerprint i.importer i.imported i.wanted (print i) = cc in ap sort_of same
import_sort None (Some i) print refusal e =
    let same : refusal ≡ cause.MissingPackage i.importer i.imported = cc in ap sort_of same
import_sort None None print refusal e = absurd (cc)

pub wave_refused : (inputs : LoadInputs) (old new : FileState) (names : List (List ℕ)) (list now : List Package) (refs : List ImportRef) (compared : ℕ) (refusal : Cause)
    → FilesUnchanged old new → IsBetweenWaves inputs old.contents names list refs compared → ReadsWave inputs old.contents list (drop (length list) names) now
    → Some refusal ≡ import_refusal_of now inputs.listed names (length list) compared (length refs)
    → RefusesLoad old new inputs (fault.Bad refusal)
wave_refused inputs old new names list now refs compared refusal same s r some =
    let w = wave_read inputs old.contents names list now refs compared s r in
    let bad = wave_bad inputs old.contents list r.adds.wave (drop (length list) names) r.files refusal r.reads r.adds.formats
    (some ∙ ap (λ o. option_or o (missing_from inputs.listed names (drop (length refs) (imports_of now)))) (sym w.unequal_is)
    ∙ ap (λ o. option_or (fingerprint_refusal list r.adds.wave) o) (sym w.missing_is)) in
    let S : Sort → Type 0 = λ k. IsOfPackages inputs k × Refuses old new (WaveTo inputs old.contents list (drop (length list) names) (Err refusal)) k in
    let sort = import_sort _ _ (λ i. fingerprint_in now i.imported) refusal some in
    wave_faulted inputs old new names list refs compared (fault.Bad refusal) s (subst S (sym sort) (tt, (same, bad)))

-- the steps of the loop

no_refs : AreImportsOf [] [] []
unfolding imports_of
no_refs = record { each = All-nil (IsImportRef []); same = refl }

no_known : (names : List (List ℕ)) → All (IsKnown names) (imports_of [])
unfolding imports_of
no_known names = All-nil (IsKnown names)

pub loading_start : (inputs : LoadInputs) (contents : Option Contents) (names : List (List ℕ)) → names ≡ first_wave inputs.listed → IsBetweenWaves inputs contents names [] [] 0
loading_start inputs contents names first = by_listed (inputs.listed runtime_package) refl where
  on : LoadsOn inputs contents [] names
  on = always contents (λ held answer h. subst (λ (ns : List (List ℕ)). Loads inputs held [] ns answer) first h)

  start : (ns : List (List ℕ)) → names ≡ ns → 0 < length ns → length ns ≤ package_limit → is_among ns unsafe_package ≡ false → All (HasFile inputs) ns → IsBetweenWaves inputs contents names [] [] 0
  start ns is some few clean files =
      let I : List (List ℕ) → Type 0 = λ l. LoadsOn inputs contents [] l → IsBetweenWaves inputs contents l [] [] 0 in
      subst I (sym is)
      (λ o. record {
        paths = refl;
        some = some;
        few = few;
        refs_are = no_refs;
        within = omega arith;
        closed = All-take (IsKnown []) 0 (imports_of []) (no_known []);
        known = no_known ns;
        clean = clean;
        files = files;
        on = o;
      })
      on

  main_file : HasFile inputs main_package
  main_file = inl (main_lies inputs main_package refl)

  by_listed : (o : Option (List ℕ)) → inputs.listed runtime_package ≡ o → IsBetweenWaves inputs contents names [] [] 0
  by_listed None e =
      start (main_package ∷ []) (first ∙ first_alone inputs.listed e) (omega arith) (lit≤ tt) refl (All-cons (HasFile inputs) main_package [] main_file (All-nil (HasFile inputs)))
  by_listed (Some file) e =
      let listed : is_none (inputs.listed runtime_package) ≡ false = ap is_none e in
      start (main_package ∷ runtime_package ∷ []) (first ∙ first_listed inputs.listed file e) (omega arith) (lit≤ tt) refl
      (All-cons (HasFile inputs) main_package (runtime_package ∷ []) main_file (All-cons (HasFile inputs) runtime_package [] (listed_file inputs runtime_package listed) (All-nil (HasFile inputs))))

-- the next wave holds something, or nothing
wave_length : (inputs : LoadInputs) (contents : Option Contents) (names more : List (List ℕ)) (list now : List Package) (known : ℕ) (refs' : List ImportRef)
    → (s : AddsPackages inputs contents names list known more refs' now)
    → (length names ≡ length list + length s.wave) × (length now ≡ length names) × (length more ≡ length names + length (next_wave list s.wave))
wave_length inputs contents names more list now known refs' s =
    let long : length now ≡ length list + length s.wave = ap length s.now_is ∙ length-append list s.wave in
    let same : length now ≡ length names = sym (length-map now (λ p. p.path)) ∙ ap length s.paths in
    (omega (arith, long, same), same, ap length s.listed ∙ length-append names (next_wave list s.wave))

-- two facts of known contents give a third
both : {P Q R : Contents → Type 0} (contents : Option Contents) → IfKnown contents P → ((held : Contents) → P held → Q held → R held) → IfKnown contents Q → IfKnown contents R
both None p f q = tt
both (Some held) p f q = f held p q

pub loop_end : (inputs : LoadInputs) (contents : Option Contents) (names more : List (List ℕ)) (list now : List Package) (refs refs' : List ImportRef) (compared : ℕ)
    → IsBetweenWaves inputs contents names list refs compared → AddsPackages inputs contents names list (length refs) more refs' now → length more ≡ length now
    → IfKnown contents (λ held. IsLoad inputs held (Ok now))
loop_end inputs contents names more list now refs refs' compared s w e =
    let sizes = wave_length inputs contents names more list now (length refs) refs' w in
    let none : next_wave list w.wave ≡ [] = nil_from_length (next_wave list w.wave) (omega (arith, sizes.1, sizes.2, e)) in
    both contents w.good (λ held g more. more (Ok now) (subst (λ (a : List Package). Loads inputs held list (drop (length list) names) (Ok a)) (sym w.now_is) (last list (drop (length list) names) w.wave g none))) s.on

pub loop_crowded : (inputs : LoadInputs) (contents : Option Contents) (names more : List (List ℕ)) (list now : List Package) (refs refs' : List ImportRef) (compared number : ℕ)
    → IsBetweenWaves inputs contents names list refs compared → AddsPackages inputs contents names list (length refs) more refs' now → number ≡ length more → package_limit < length more → ¬ (length more ≡ length now)
    → IfKnown contents (λ held. IsLoad inputs held (Err (cause.TooLarge limit.Packages number)))
loop_crowded inputs contents names more list now refs refs' compared number s w is many apart =
    let sizes = wave_length inputs contents names more list now (length refs) refs' w in
    let count : number ≡ listed_count list w.wave = omega (arith, is, sizes.0, sizes.2) in
    let some : 0 < length (next_wave list w.wave) = above (length (next_wave list w.wave)) refl in
    let crowd : package_limit < listed_count list w.wave = omega (arith, many, is, count) in
    both contents w.good (λ held g more. more (Err (cause.TooLarge limit.Packages number))
    (subst (λ (k : ℕ). Loads inputs held list (drop (length list) names) (Err (cause.TooLarge limit.Packages k))) (sym count) (crowded list (drop (length list) names) w.wave g some crowd))) s.on
  where
    above : (k : ℕ) → k ≡ length (next_wave list w.wave) → 0 < length (next_wave list w.wave)
    above zero e = absurd (apart (let sizes = wave_length inputs contents names more list now (length refs) refs' w in omega (arith, sizes.1, sizes.2, e)))
    above (suc k) e = omega (arith, e)

pub loop_more : (inputs : LoadInputs) (contents : Option Contents) (names more : List (List ℕ)) (list now : List Package) (refs refs' : List ImportRef) (compared : ℕ)
    → IsBetweenWaves inputs contents names list refs compared → AddsPackages inputs contents names list (length refs) more refs' now → length more ≤ package_limit → ¬ (length more ≡ length now)
    → IsBetweenWaves inputs contents more now refs' (length refs)
loop_more inputs contents names more list now refs refs' compared s w few apart = record {
  paths = paths;
  some = omega (arith, some, sizes.1, sizes.2);
  few = few;
  refs_are = w.refs_are;
  within = w.within;
  closed = subst (λ (ns : List (List ℕ)). All (IsKnown ns) (take (length refs) (imports_of now))) (sym w.paths) w.closed;
  known = w.all_known;
  clean = w.clean;
  files = w.files;
  on = both contents w.good (λ held g more answer h. more answer (turn held answer g h)) s.on;
}
  where
    sizes : (length names ≡ length list + length w.wave) × (length now ≡ length names) × (length more ≡ length names + length (next_wave list w.wave))
    sizes = wave_length inputs contents names more list now (length refs) refs' w

    above : (k : ℕ) → k ≡ length (next_wave list w.wave) → 0 < length (next_wave list w.wave)
    above zero e = absurd (apart (omega (arith, sizes.1, sizes.2, e)))
    above (suc k) e = omega (arith, e)

    some : 0 < length (next_wave list w.wave)
    some = above (length (next_wave list w.wave)) refl

    paths : paths_of now ≡ take (length now) more
    paths = w.paths ∙ sym (ap (λ k. take k more) sizes.1 ∙ ap (take (length names)) w.listed ∙ take-append_seam names (next_wave list w.wave))

    rest : drop (length now) more ≡ next_wave list w.wave
    rest = ap (λ k. drop k more) sizes.1 ∙ ap (drop (length names)) w.listed ∙ drop-append_seam names (next_wave list w.wave)

    count : listed_count list w.wave ≤ package_limit
    count = omega (arith, few, sizes.0, sizes.2)

    turn : (held : Contents) (answer : Result (List Package) Cause) → Wave inputs held list (drop (length list) names) (Ok w.wave)
        → Loads inputs held now (drop (length now) more) answer → Loads inputs held list (drop (length list) names) answer
    turn held answer g h =
        let L : List Package → List (List ℕ) → Type 0 = λ p ns. Loads inputs held p ns answer in
        further list (drop (length list) names) w.wave answer g some count
        (subst (λ (p : List Package). L p (next_wave list w.wave)) w.now_is (subst (λ (ns : List (List ℕ)). L now ns) rest h))

pub loop_less : (inputs : LoadInputs) (contents : Option Contents) (names more : List (List ℕ)) (list now : List Package) (refs refs' : List ImportRef) (compared : ℕ)
    → IsBetweenWaves inputs contents names list refs compared → AddsPackages inputs contents names list (length refs) more refs' now → length more ≤ package_limit
    → package_limit - length now < package_limit - length list
loop_less inputs contents names more list now refs refs' compared s w few =
    let sizes = wave_length inputs contents names more list now (length refs) refs' w in
    omega (arith, sizes.0, sizes.1, sizes.2, s.some, few)
