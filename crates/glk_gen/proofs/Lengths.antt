-- How long the objects of a world are.
use Rattle.std.proofs.Common.{◌≡◌, ℕ, zero, suc, ◌+◌, ◌*◌, ◌/◌, ◌%◌, ◌^◌, ◌≤◌, ◌<◌, arith, List, [], ◌∷◌, ◌++◌, length, map, Bool, true, false, cond, refl, ap, sym, subst, All, length-append}
use Rattle.std.specs.Prelude.{filter, not, ◌==◌, codes, decimal}
use Rattle.std.specs.List.{range_with_len, flat_map}
use Rattle.std.proofs.lemmas.List.{length-map, length-replicate}
use Rattle.std.proofs.lemmas.List.Elements.{All-nil, All-cons, All-weaker, All-head, All-tail, All-push, All-filter, All-map}
use Rattle.std.proofs.lemmas.List.Concat.{flat_map-append}
use Rattle.std.proofs.lemmas.List.FromFn.{length-range_with_len, length-map-range_with_len}
use Rattle.std.proofs.lemmas.Fmt.{length-decimal-le}
use Rattle.glk_objdesc.specs.declared.desc.AutolibDesc.{AutolibDesc}
use Rattle.glk_objdesc.specs.declared.desc.DefDesc.{DefDesc}
use Rattle.glk_objdesc.specs.declared.desc.ObjDesc.{ObjDesc}
use Rattle.glk_objdesc.specs.FirstUse.{concat_of}
use Rattle.glk_objdesc.specs.Canonical.{autolib_path, def_name, relocs_bytes, auxes_bytes, content_of, reloc_bytes, object_bytes, strings_of}
use Rattle.glk_objdesc.specs.Sizes.{total_of, packages_length, sum_of}
use Rattle.glk_objdesc.proofs.SizeLemmas.{length_object, length_each, length_reloc, length_relocs, length_auxes, length_contents}
use Rattle.glk_base.specs.Limits.{function_limit}
use Rattle.glk_gen.specs.Packages.{package_count, packages, first_function, function_count, functions, package_of, package_path, function_name}
use Rattle.glk_gen.specs.Uses.{is_used, with_use, with_uses}
use Rattle.glk_gen.specs.Calls.{callee, callees, calls_each, imports}
use Rattle.glk_gen.specs.Objects.{object_with, code, function_of, data_of, data_name, entry, autolib_of, package_object, main_object}
use Rattle.glk_gen.specs.Worlds.{object_bound}
use Rattle.glk_gen.proofs.Strings.{IsShortName, pool_length, short_length, strings_length}

-- ---- what holds of all numbers of a range
all_range : (P : ℕ → Type 0) (a n : ℕ) → ((i : ℕ) → i < a + n → P i) → All P (range_with_len a n)
all_range P a zero each = All-nil P
all_range P a (suc n) each = All-cons P a (range_with_len (a + 1) n) (each a (omega arith)) (all_range P (a + 1) n (λ i inside. each i (omega arith)))

-- ---- names
path_short : (k : ℕ) → k < 10 ^ 4 → length (package_path k) ≤ 5
path_short k small = let digits : length (decimal k) ≤ 4 = length-decimal-le 4 k (omega arith) small (omega arith) in omega (arith, length-append (codes "p") (decimal k))

function_short : (k i : ℕ) → k < 10 ^ 4 → i < 10 ^ 6 → IsShortName (function_name k i)
function_short k i small few =
    let path = path_short k small in
    let digits : length (decimal i) ≤ 6 = length-decimal-le 6 i (omega arith) few (omega arith) in
    omega (arith, path, length-append (package_path k ++ codes ".f") (decimal i), length-append (package_path k) (codes ".f"))

data_short : (k : ℕ) → IsShortName (data_name k)
data_short k = let digits : length (decimal (k % 16)) ≤ 2 = length-decimal-le 2 (k % 16) (omega arith) (omega arith) (omega arith) in omega (arith, length-append (codes "gen.d") (decimal (k % 16)))

-- ---- the packages of PkgIdx
use_length : (used : List ℕ) (p : ℕ) → length (with_use used p) ≤ length used + 1
unfolding with_use
use_length used p = by_test (is_used used p)
  where
    by_test : (b : Bool) → length (cond b used (used ++ p ∷ [])) ≤ length used + 1
    by_test true = omega arith
    by_test false = omega (arith, length-append used (p ∷ []))

uses_length : (used ps : List ℕ) → length (with_uses used ps) ≤ length used + length ps
unfolding with_uses
uses_length used [] = omega arith
uses_length used (p ∷ ps) = omega (arith, uses_length (with_use used p) ps, use_length used p)

use_all : (P : ℕ → Type 0) (used : List ℕ) (p : ℕ) → All P used → P p → All P (with_use used p)
unfolding with_use
use_all P used p all here = by_test (is_used used p)
  where
    by_test : (b : Bool) → All P (cond b used (used ++ p ∷ []))
    by_test true = all
    by_test false = All-push P used p all here

uses_all : (P : ℕ → Type 0) (used ps : List ℕ) → All P used → All P ps → All P (with_uses used ps)
unfolding with_uses
uses_all P used [] all more = all
uses_all P used (p ∷ ps) all more = uses_all P (with_use used p) ps (use_all P used p all (All-head P p ps more)) (All-tail P p ps more)

filter_step : (b : Bool) (x : ℕ) (some all : List ℕ) → length some ≤ length all → length (cond b (x ∷ some) some) ≤ suc (length all)
filter_step true x some all less = omega arith
filter_step false x some all less = omega arith

filter_length : (p : ℕ → Bool) (xs : List ℕ) → length (filter p xs) ≤ length xs
filter_length p [] = omega arith
filter_length p (x ∷ xs) = filter_step (p x) x (filter p xs) xs (filter_length p xs)

imports_few : (seed n k : ℕ) → length (imports seed n k) ≤ 128
unfolding imports
imports_few seed n k =
    let called = callees seed n k in
    let all = uses_length [] (filter (λ p. not (p == k)) (map package_of called)) in
    let some = filter_length (λ p. not (p == k)) (map package_of called) in
    let each = length-map called package_of in
    let count = length-map-range_with_len (callee seed n) (calls_each * first_function k) (calls_each * function_count n k) in
    omega (arith, all, some, each, count)

callee_below : (seed n call : ℕ) → 0 < n → n ≤ function_limit → package_of (callee seed n call) < 10 ^ 4
callee_below seed n call some few = omega arith

imports_below : (seed n k : ℕ) → 0 < n → n ≤ function_limit → All (λ p. p < 10 ^ 4) (imports seed n k)
unfolding imports
imports_below seed n k some few =
    let calls = range_with_len (calls_each * first_function k) (calls_each * function_count n k) in
    let all : All (λ p. p < 10 ^ 4) (map package_of (callees seed n k)) =
    All-map (λ p. p < 10 ^ 4) package_of (callees seed n k)
    (All-map (λ f. package_of f < 10 ^ 4) (callee seed n) calls
    (all_range (λ call. package_of (callee seed n call) < 10 ^ 4) _ _ (λ call _. callee_below seed n call some few))) in
    uses_all (λ p. p < 10 ^ 4) [] _ (All-nil (λ p. p < 10 ^ 4)) (All-filter (λ p. not (p == k)) (λ p. p < 10 ^ 4) (map package_of (callees seed n k)) all)

-- ---- functions and data
map_length : (g : DefDesc → List ℕ) (f : ℕ → DefDesc) (each : ℕ) (xs : List ℕ) → ((i : ℕ) → length (g (f i)) ≡ each) → length (flat_map g (map f xs)) ≡ each * length xs
map_length g f each [] same = grind arith
map_length g f each (x ∷ xs) same =
    let more : each * suc (length xs) ≡ each + each * length xs = grind arith in
    omega (arith, map_length g f each xs same, same x, more, length-append (g (f x)) (flat_map g (map f xs)))

function_relocs : (seed n k i : ℕ) → length (relocs_bytes (function_of seed n k i)) ≡ 69
unfolding function_of relocs_bytes
function_relocs seed n k i = length_each reloc_bytes 23 (function_of seed n k i).relocs length_reloc

function_auxes : (seed n k i : ℕ) → length (auxes_bytes (function_of seed n k i)) ≡ 0
unfolding function_of auxes_bytes
function_auxes seed n k i = refl

function_content : (seed n k i : ℕ) → length (content_of (function_of seed n k i)) ≡ 32
unfolding function_of code
function_content seed n k i = refl

function_named : (seed n k i : ℕ) → def_name (function_of seed n k i) ≡ function_name k i
unfolding function_of
function_named seed n k i = refl

data_relocs : (k : ℕ) → length (relocs_bytes (data_of k)) ≡ 0
unfolding data_of relocs_bytes
data_relocs k = refl

data_auxes : (k : ℕ) → length (auxes_bytes (data_of k)) ≡ 0
unfolding data_of auxes_bytes
data_auxes k = refl

data_content : (k : ℕ) → length (content_of (data_of k)) ≤ 32
unfolding data_of
data_content k = omega (arith, length-replicate {A = ℕ} (8 + 8 * (k / 16 % 4)) 100)

data_named : (k : ℕ) → IsShortName (def_name (data_of k))
unfolding data_of
data_named k = data_short k

-- ---- an object of these parts
-- what the definitions of an object have
pub record Has (defs : List DefDesc) (relocs auxes content : ℕ) : Type 0 where
  pub relocs_is : length (flat_map relocs_bytes defs) ≤ 23 * relocs
  pub auxes_is : length (flat_map auxes_bytes defs) ≤ 9 * auxes
  pub content_is : length (flat_map content_of defs) ≤ content

object_length : (autolib : List AutolibDesc) (pkgs : List (List ℕ)) (defs ndefs : List DefDesc) (relocs auxes content : ℕ)
    → Has (defs ++ ndefs) relocs auxes content
    → length (object_bytes (object_with autolib pkgs defs ndefs)) ≤
    96 + length (concat_of (strings_of (object_with autolib pkgs defs ndefs))) + packages_length autolib + 8 * (length pkgs + 1) + 21 * (length defs + length ndefs)
    + 12 * (length defs + length ndefs + 1) + 23 * relocs + 9 * auxes + content
unfolding sum_of total_of
object_length autolib pkgs defs ndefs relocs auxes content has =
    let d : ObjDesc = object_with autolib pkgs defs ndefs in
    let whole = length_object d refl in
    let pool = pool_length d in
    let r = length_relocs (defs ++ ndefs) in
    let a = length_auxes (defs ++ ndefs) in
    let k = length_contents (defs ++ ndefs) in
    let all = length-append defs ndefs in
    omega (arith, whole, pool, r, a, k, all, has.relocs_is, has.auxes_is, has.content_is)

-- ---- packages
functions_has : (seed n k : ℕ) (xs : List ℕ) → length xs ≤ 64 → Has (map (function_of seed n k) xs ++ data_of k ∷ []) 192 0 2080
functions_has seed n k xs few =
    let defs : List DefDesc = map (function_of seed n k) xs in
    let ndefs : List DefDesc = data_of k ∷ [] in
    record {
      relocs_is = omega (
        arith,
        ap length (flat_map-append relocs_bytes defs ndefs),
        length-append (flat_map relocs_bytes defs) (flat_map relocs_bytes ndefs),
        length-append (relocs_bytes (data_of k)) [],
        map_length relocs_bytes (function_of seed n k) 69 xs (function_relocs seed n k),
        data_relocs k,
      );
      auxes_is = omega (
        arith,
        ap length (flat_map-append auxes_bytes defs ndefs),
        length-append (flat_map auxes_bytes defs) (flat_map auxes_bytes ndefs),
        length-append (auxes_bytes (data_of k)) [],
        map_length auxes_bytes (function_of seed n k) 0 xs (function_auxes seed n k),
        data_auxes k,
      );
      content_is = omega (
        arith,
        ap length (flat_map-append content_of defs ndefs),
        length-append (flat_map content_of defs) (flat_map content_of ndefs),
        length-append (content_of (data_of k)) [],
        map_length content_of (function_of seed n k) 32 xs (function_content seed n k),
        data_content k,
      );
    }

imports_short : (ps : List ℕ) → All (λ p. p < 10 ^ 4) ps → All IsShortName (map package_path ps)
imports_short ps below =
    All-map IsShortName package_path ps (All-weaker (λ p. p < 10 ^ 4) (λ p. IsShortName (package_path p)) (λ p small. omega (arith, path_short p small)) ps below)

functions_short : (seed n k : ℕ) → k < 10 ^ 4 → All IsShortName (map def_name (map (function_of seed n k) (functions n k)))
functions_short seed n k small =
    All-map IsShortName def_name (map (function_of seed n k) (functions n k))
    (All-map (λ def. IsShortName (def_name def)) (function_of seed n k) (functions n k)
    (all_range (λ i. IsShortName (def_name (function_of seed n k i))) (first_function k) (function_count n k)
    (λ i inside. subst IsShortName (sym (function_named seed n k i)) (function_short k i small (omega arith)))))

package_strings : (pkgs : List (List ℕ)) (defs : List DefDesc) (ndef : DefDesc) → All IsShortName pkgs → All IsShortName (map def_name defs) → IsShortName (def_name ndef)
    → length (concat_of (strings_of (object_with [] pkgs defs (ndef ∷ [])))) ≤ 32 * (length pkgs + length defs + 2)
unfolding concat_of
package_strings pkgs defs ndef short named last =
    let d : ObjDesc = object_with [] pkgs defs (ndef ∷ []) in
    let p = short_length pkgs short in
    let f = short_length (map def_name defs) named in
    let e = length-append (def_name ndef) [] in
    let count = length-map defs def_name in
    omega (arith, strings_length d, p, f, e, count)

pub package_length : (seed n k : ℕ) → 0 < n → n ≤ function_limit → k < package_count n → length (object_bytes (package_object seed n k)) ≤ object_bound
unfolding package_object packages_length
package_length seed n k some few inside =
    let pkgs : List (List ℕ) = map package_path (imports seed n k) in
    let defs : List DefDesc = map (function_of seed n k) (functions n k) in
    let count : length (functions n k) ≤ 64 = omega (arith, length-range_with_len (first_function k) (function_count n k)) in
    let whole = object_length [] pkgs defs (data_of k ∷ []) 192 0 2080 (functions_has seed n k (functions n k) count) in
    let strings = package_strings pkgs defs (data_of k) (imports_short (imports seed n k) (imports_below seed n k some few)) (functions_short seed n k (omega arith)) (data_named k) in
    let imported = length-map (imports seed n k) package_path in
    let defined = length-map (functions n k) (function_of seed n k) in
    by_parts (length pkgs) (length defs) _ _ (omega (arith, imported, imports_few seed n k)) (omega (arith, defined, count)) strings whole
  where
    by_parts : (p f s w : ℕ) → p ≤ 128 → f ≤ 64 → s ≤ 32 * (p + f + 2) → w ≤ 96 + s + 0 + 8 * (p + 1) + 21 * (f + 1) + 12 * (f + 1 + 1) + 23 * 192 + 9 * 0 + 2080 → w ≤ object_bound
    by_parts p f s w small fine strings whole = omega arith

-- ---- the main package
entry_has : Has (entry ∷ []) 1 0 32
unfolding entry code relocs_bytes auxes_bytes
entry_has = record {
  relocs_is = omega (arith, length-append (relocs_bytes entry) [], length_each reloc_bytes 23 entry.relocs length_reloc);
  auxes_is = omega (arith, length-append (auxes_bytes entry) []);
  content_is = omega (arith, length-append (content_of entry) []);
}

entry_short : IsShortName (def_name entry)
unfolding entry
entry_short = omega arith

autolib_short : (xs : List ℕ) → All (λ k. k < 10 ^ 4) xs → All IsShortName (map autolib_path (map autolib_of xs))
autolib_short xs below =
    All-map IsShortName autolib_path (map autolib_of xs)
    (All-map (λ a. IsShortName (autolib_path a)) autolib_of xs
    (All-weaker (λ k. k < 10 ^ 4) (λ k. IsShortName (package_path k)) (λ k small. omega (arith, path_short k small)) xs below))

autolib_length : (xs : List ℕ) → packages_length (map autolib_of xs) ≡ 16 * length xs
unfolding packages_length
autolib_length [] = refl
autolib_length (x ∷ xs) = omega (arith, autolib_length xs)

main_strings : (autolib : List AutolibDesc) → All IsShortName (map autolib_path autolib) → length (concat_of (strings_of (object_with autolib (package_path 0 ∷ []) (entry ∷ []) []))) ≤ 32 * (length autolib + 2)
unfolding concat_of
main_strings autolib short =
    let d : ObjDesc = object_with autolib (package_path 0 ∷ []) (entry ∷ []) [] in
    let a = short_length (map autolib_path autolib) short in
    let p = length-append (package_path 0) [] in
    let e = length-append (def_name entry) [] in
    let count = length-map autolib autolib_path in
    omega (arith, strings_length d, a, p, e, count, path_short 0 (omega arith), entry_short)

pub main_length : (n : ℕ) → n ≤ function_limit → length (object_bytes (main_object n)) ≤ object_bound
unfolding main_object
main_length n few =
    let autolib : List AutolibDesc = map autolib_of (packages n) in
    let count : length (packages n) ≤ 3125 = omega (arith, length-range_with_len 0 (package_count n)) in
    let below : All (λ k. k < 10 ^ 4) (packages n) = all_range (λ k. k < 10 ^ 4) 0 (package_count n) (λ k inside. omega arith) in
    let whole = object_length autolib (package_path 0 ∷ []) (entry ∷ []) [] 1 0 32 entry_has in
    let strings = main_strings autolib (autolib_short (packages n) below) in
    let listed = length-map (packages n) autolib_of in
    omega (arith, whole, strings, listed, count, autolib_length (packages n))
