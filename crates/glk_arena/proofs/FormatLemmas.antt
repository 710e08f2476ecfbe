-- The formats of a wave's files, one after the other.
use Rattle.std.proofs.Common.{◌≡◌, ◌<◌, ◌≤◌, ◌++◌, ◌∷◌, [], ℕ, List, length, map, drop, get_or, Option, refl, ap, sym, subst, ◌∙◌, arith, add-one, suc, drop-cons, Result, Ok, Err, append_assoc}
use Rattle.std.proofs.Math.ListN.{drop_of_length-le}
use Rattle.std.proofs.lemmas.List.{append-nil, length_push}
use Rattle.glk_cause.specs.declared.cause.Cause.{Cause}
use Rattle.glk_base.specs.declared.fault.Fault.{Fault}
use Rattle.glk_base.specs.declared.fault.Fault.TheVariants as fault
use Rattle.glk_package.specs.ObjectRules.{ObjectRules, rules_after}
use Rattle.glk_package.specs.HeaderRule.{HeaderRule, first_line, line_or_open, header_after}
use Rattle.glk_package.specs.ObjectEntry.{ObjectEntry}
use Rattle.glk_package.proofs.RuleAfter.{or_none, or_both, first_both, line_behind, width_behind}
use Rattle.glk_package.specs.WidthRule.{WidthRule, first_width, width_or_open}
use Rattle.std.specs.Option.{option_or}
use Rattle.glk_package.specs.PackageRefusal.{refusal_of, IsRefusedFor}
use Rattle.glk_arena.specs.World.{Package, package_of_file, objects_of, first_header, rules_so_far, paths_of}
use Rattle.glk_arena.specs.Waves.{LoadInputs, Formats, all_whole, broken, whole, broken_later, file_of}
use Rattle.glk_arena.specs.LoadParts.{IsPackageIn, HoldsStored, IsFormatRefusal}
use Rattle.glk_arena.specs.declared.stored.StoredObjects.{StoredObjects}
use Rattle.glk_arena.specs.Stored.{stored_data}
use Rattle.glk_arena.proofs.WorldLemmas.{objects_push}

-- the answer of formats after packages that are whole
abbrev pub after_packages : List Package → Result (List Package) Cause → Result (List Package) Cause
after_packages some (Ok later) = Ok (some ++ later)
after_packages some (Err refusal) = Err refusal

-- the first line and the first length of long hashes with one package more
pub header_push : (world : List Package) (p : Package) → first_header (world ++ p ∷ []) ≡ option_or (first_header world) p.header
header_push [] p = or_none p.header
header_push (q ∷ world) p = ap (option_or q.header) (header_push world p) ∙ sym (or_both q.header (first_header world) p.header)

pub width_push : (world : List Package) (p : Package) → first_width (objects_of (world ++ p ∷ [])) ≡ option_or (first_width (objects_of world)) (first_width p.objects)
width_push world p = ap first_width (objects_push world p) ∙ first_both (objects_of world) p.objects

-- so the rules for what comes after them
abbrev with_rules : HeaderRule → WidthRule → ObjectRules
with_rules headers widths = record { headers = headers; widths = widths }

pub rules_push : (world : List Package) (path file : List ℕ) (objects : List ObjectEntry) → rules_so_far (world ++ package_of_file path file objects ∷ []) ≡ rules_after (rules_so_far world) objects
rules_push world path file objects =
    let p : Package = package_of_file path file objects in
    ap (λ h. with_rules (line_or_open h) (width_or_open (first_width (objects_of (world ++ p ∷ []))))) (header_push world p)
    ∙ ap (λ w. with_rules (line_or_open (option_or (first_header world) (first_line objects))) (width_or_open w)) (width_push world p)
    ∙ ap (λ h. with_rules h (width_or_open (option_or (first_width (objects_of world)) (first_width p.objects)))) (sym (line_behind (first_header world) objects))
    ∙ ap (λ w. with_rules (header_after (line_or_open (first_header world)) objects) w) (sym (width_behind (first_width (objects_of world)) objects))

-- what the rest of a wave is found to be, all of it is, after these packages
pub record FormatsOn (inputs : LoadInputs) (wanted : ObjectRules) (paths files : List (List ℕ)) (earlier now : List Package) (names rest : List (List ℕ)) : Type 0 where
  pub wave : List Package
  pub now_is : now ≡ earlier ++ wave
  pub on : (answer : Result (List Package) Cause) → Formats inputs (rules_so_far now) (drop (length now) names) rest answer
      → Formats inputs wanted paths files (after_packages wave answer)

pub formats_start : (inputs : LoadInputs) (files names : List (List ℕ)) (earlier : List Package)
    → FormatsOn inputs (rules_so_far earlier) (drop (length earlier) names) files earlier earlier names files
formats_start inputs files names earlier = record { wave = []; now_is = sym (append-nil earlier); on = on }
  where
    on : (answer : Result (List Package) Cause) → Formats inputs (rules_so_far earlier) (drop (length earlier) names) files answer
        → Formats inputs (rules_so_far earlier) (drop (length earlier) names) files (after_packages [] answer)
    on (Ok later) f = f
    on (Err refusal) f = f

step_answer : (some : List Package) (p : Package) (answer : Result (List Package) Cause) → after_packages some (after_packages (p ∷ []) answer) ≡ after_packages (some ++ p ∷ []) answer
step_answer some p (Ok later) = ap Ok (sym (append_assoc some (p ∷ []) later))
step_answer some p (Err refusal) = refl

format_step : (inputs : LoadInputs) (wanted : ObjectRules) (path : List ℕ) (later : List (List ℕ)) (file : List ℕ) (rest : List (List ℕ)) (p : Package) (answer : Result (List Package) Cause)
    → (is : IsPackageIn wanted path file p) → Formats inputs (rules_after wanted is.objects) later rest answer → Formats inputs wanted (path ∷ later) (file ∷ rest) (after_packages (p ∷ []) answer)
format_step inputs wanted path later file rest p (Ok packages) is f =
    let F : Package → Type 0 = λ q. Formats inputs wanted (path ∷ later) (file ∷ rest) (Ok (q ∷ packages)) in
    subst F (sym is.is) (whole wanted path later file rest is.objects packages is.holds f)
format_step inputs wanted path later file rest p (Err refusal) is f = broken_later wanted path later file rest is.objects refusal is.holds f

-- the package whose objects are stored
pub package_is : (rules : ObjectRules) (name path file : List ℕ) (stored : StoredObjects) (p : Package) → path ≡ name → HoldsStored rules file stored
    → p ≡ record { path = path; file = file; header = stored.header; objects = map (stored_data file) stored.list.items } → IsPackageIn rules name file p
package_is rules name path file stored p same h is =
    let made : List ℕ → Option (List ℕ) → List (List ℕ) → Package = λ q header objects. record { path = q; file = file; header = header; objects = objects } in
    record {
      objects = h.objects;
      holds = h.holds;
      is = is ∙ ap (λ q. made q stored.header (map (stored_data file) stored.list.items)) same
          ∙ ap (λ header. made name header (map (stored_data file) stored.list.items)) h.stores.header_is
          ∙ ap (λ objects. made name (first_line h.objects) objects) h.stores.data_are;
    }

-- one package more
pub formats_more : (inputs : LoadInputs) (wanted : ObjectRules) (paths files : List (List ℕ)) (earlier now next : List Package) (names rest : List (List ℕ)) (file : List ℕ) (p : Package)
    → length now < length names → IsPackageIn (rules_so_far now) (get_or names (length now) []) file p → next ≡ now ++ p ∷ []
    → FormatsOn inputs wanted paths files earlier now names (file ∷ rest) → FormatsOn inputs wanted paths files earlier next names rest
formats_more inputs wanted paths files earlier now next names rest file p l is more f = record {
  wave = f.wave ++ p ∷ [];
  now_is = more ∙ ap (λ w. w ++ p ∷ []) f.now_is ∙ append_assoc earlier f.wave (p ∷ []);
  on = on;
}
  where
    lines : rules_so_far next ≡ rules_after (rules_so_far now) is.objects
    lines = ap (λ w. rules_so_far w) (more ∙ ap (λ q. now ++ q ∷ []) is.is) ∙ rules_push now (get_or names (length now) []) file is.objects

    refs : drop (length next) names ≡ drop (suc (length now)) names
    refs = ap (λ n. drop n names) (ap length more ∙ length_push now p ∙ add-one (length now))

    on : (answer : Result (List Package) Cause) → Formats inputs (rules_so_far next) (drop (length next) names) rest answer
        → Formats inputs wanted paths files (after_packages (f.wave ++ p ∷ []) answer)
    on answer g =
        let G : ObjectRules → List (List ℕ) → Type 0 = λ w ps. Formats inputs w ps rest answer in
        let g' = subst (λ (w : ObjectRules). G w (drop (suc (length now)) names)) lines (subst (λ (ps : List (List ℕ)). G (rules_so_far next) ps) refs g) in
        let step : Formats inputs (rules_so_far now) (get_or names (length now) [] ∷ drop (suc (length now)) names) (file ∷ rest) (after_packages (p ∷ []) answer) =
        format_step inputs (rules_so_far now) (get_or names (length now) []) (drop (suc (length now)) names) file rest p answer is g' in
        let S : List (List ℕ) → Type 0 = λ ps. Formats inputs (rules_so_far now) ps (file ∷ rest) (after_packages (p ∷ []) answer) in
        let T : Result (List Package) Cause → Type 0 = λ a. Formats inputs wanted paths files a in
        subst T (step_answer f.wave p answer) (f.on (after_packages (p ∷ []) answer) (subst S (sym (drop-cons names (length now) [] l)) step))

-- the first refusal
refused_more : (P Q : Cause → Type 0) (f : Fault Cause) → ((c : Cause) → P c → Q c) → IsRefusedFor P f → IsRefusedFor Q f
refused_more P Q (fault.Bad c) q h = q c h
refused_more P Q fault.OutOfMemory q h = tt

pub formats_fault : (inputs : LoadInputs) (wanted : ObjectRules) (paths files : List (List ℕ)) (earlier now : List Package) (names rest : List (List ℕ)) (file place : List ℕ) (answer : Fault Cause)
    → length now < length names → place ≡ file_of inputs (get_or names (length now) [])
    → FormatsOn inputs wanted paths files earlier now names (file ∷ rest)
    → IsRefusedFor (IsFormatRefusal (rules_so_far now) file place) answer
    → IsRefusedFor (λ refusal. Formats inputs wanted paths files (Err refusal)) answer
formats_fault inputs wanted paths files earlier now names rest file place answer l lies f is =
    refused_more (IsFormatRefusal (rules_so_far now) file place) (λ refusal. Formats inputs wanted paths files (Err refusal)) answer turn is
  where
    turn : (c : Cause) → IsFormatRefusal (rules_so_far now) file place c → Formats inputs wanted paths files (Err c)
    turn c h =
        let S : List (List ℕ) → Type 0 = λ ps. Formats inputs (rules_so_far now) ps (file ∷ rest) (Err c) in
        let here : Formats inputs (rules_so_far now) (get_or names (length now) [] ∷ drop (suc (length now)) names) (file ∷ rest) (Err c) =
        let F : Cause → Type 0 = λ d. Formats inputs (rules_so_far now) (get_or names (length now) [] ∷ drop (suc (length now)) names) (file ∷ rest) (Err d) in
        subst F (sym (h.2 ∙ ap (λ q. refusal_of q h.0) lies))
        (broken (rules_so_far now) (get_or names (length now) []) (drop (suc (length now)) names) file rest h.0 h.1)
        in
        f.on (Err c) (subst S (sym (drop-cons names (length now) [] l)) here)

-- all packages
pub formats_end : (inputs : LoadInputs) (wanted : ObjectRules) (paths files : List (List ℕ)) (earlier now : List Package) (names : List (List ℕ)) → length names ≤ length now
    → (f : FormatsOn inputs wanted paths files earlier now names []) → Formats inputs wanted paths files (Ok f.wave)
formats_end inputs wanted paths files earlier now names g f =
    let T : List Package → Type 0 = λ ps. Formats inputs wanted paths files (Ok ps) in
    let S : List (List ℕ) → Type 0 = λ ps. Formats inputs (rules_so_far now) ps [] (Ok []) in
    subst T (append-nil f.wave) (f.on (Ok []) (subst S (sym (drop_of_length-le names g)) (all_whole (rules_so_far now))))

-- the packages of a wave have its paths, and its files
pub formats_paths : (inputs : LoadInputs) (wanted : ObjectRules) (paths files : List (List ℕ)) (wave : List Package) → Formats inputs wanted paths files (Ok wave) → paths_of wave ≡ paths
formats_paths inputs wanted paths files wave (all_whole w) = refl
formats_paths inputs wanted paths files wave (whole w p ps f fs objects later is rest) = ap (λ qs. p ∷ qs) (formats_paths inputs (rules_after wanted objects) ps fs later rest)

-- a queue that gives nothing is empty
pub no_rest : (all rest : List (List ℕ)) → all ≡ rest → rest ≡ drop 1 all → all ≡ []
no_rest [] rest e d = refl
no_rest (x ∷ all) rest e d = absurd (omega (arith, ap length e, ap length d))
