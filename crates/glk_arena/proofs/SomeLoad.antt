-- Known files load to an answer.
use Rattle.std.proofs.Common.{◌≡◌, ◌-◌, ◌+◌, ◌<◌, ◌≤◌, ◌++◌, ◌∙◌, ◌⊎◌, inl, inr, ℕ, zero, suc, List, [], ◌∷◌, length, length-append, refl, sym, ap, arith, Option, Some, None, Result, Ok, Err}
use Rattle.std.proofs.lemmas.Bool.{cases_lt}
use Rattle.std.proofs.lemmas.List.{length-map}
use Rattle.glk_base.specs.Limits.{file_limit}
use Rattle.glk_io.specs.Contents.{Contents, file_in}
use Rattle.glk_cause.specs.declared.cause.Cause.{Cause}
use Rattle.glk_cause.specs.declared.cause.Cause.TheVariants as cause
use Rattle.glk_cause.specs.declared.cause.Limit.TheVariants as limit
use Rattle.glk_cause.specs.Chain.{Along, ends, takes, IsSomeAt}
use Rattle.glk_cause.specs.Reading.{bytes_or}
use Rattle.glk_cause.proofs.ChainLaws.{then_some, gives_some, finds_some, function_some, along_some, then_given, finds_given}
use Rattle.glk_package.specs.declared.refusal.PackageBad.{PackageBad}
use Rattle.glk_package.specs.ObjectRules.{ObjectRules, rules_after}
use Rattle.glk_package.specs.ObjectEntry.{ObjectEntry}
use Rattle.glk_package.specs.Package.{PackageFile}
use Rattle.glk_package.proofs.Some.{some_package}
use Rattle.glk_package.specs.PackageRefusal.{refusal_of}
use Rattle.glk_arena.specs.World.{Package, paths_of, package_of_file, rules_so_far, file_bytes, package_limit}
use Rattle.glk_arena.specs.Waves.{LoadInputs, Takes, ReadsOne, Reads, Formats, all_whole, broken, whole, broken_later, Wave, Loads, refused, last, crowded, further, IsLoad, first_wave, next_wave, listed_count, file_of, runtime_package, fingerprint_refusal, missing_refusal}
use Rattle.glk_arena.proofs.FormatLemmas.{formats_paths}

reads_some : (inputs : LoadInputs) (files : Contents) (left : ℕ) (paths : List (List ℕ)) → IsSomeAt (Reads inputs files left) paths
reads_some inputs files left paths = along_some each left paths
  where
    each : (l : ℕ) (path : List ℕ) → IsSomeAt (ReadsOne inputs files l) path
    each l path =
        then_some path (function_some (λ p. bytes_or (file_of inputs p) l file_limit (file_in files (file_of inputs p))) path)
        (λ file read. gives_some {R = Takes l} file ((l - length file, file), refl))

-- as many files as paths
reads_long : {St A B : Type 0} {S : St → A → Result (St × B) Cause → Type 0} (s : St) (xs : List A) (ys : List B) → Along S s xs (Ok ys) → length ys ≡ length xs
reads_long s xs ys (ends s0) = refl
reads_long s xs ys (takes s0 t a b later rest h u) = ap suc (reads_long t later rest u)

formats_some : (inputs : LoadInputs) (wanted : ObjectRules) (paths files : List (List ℕ)) → length files ≡ length paths → (answer : Result (List Package) Cause) × Formats inputs wanted paths files answer
formats_some inputs wanted [] [] same = (Ok [], all_whole wanted)
formats_some inputs wanted [] (f ∷ fs) same = absurd (omega (arith, same))
formats_some inputs wanted (p ∷ ps) [] same = absurd (omega (arith, same))
formats_some inputs wanted (p ∷ ps) (f ∷ fs) same = by_file (λ w. formats_some inputs w ps fs (omega (arith, same))) (some_package wanted f)
  where
    by_rest : (objects : List ObjectEntry) → PackageFile wanted f (Ok objects) → (answer : Result (List Package) Cause) × Formats inputs (rules_after wanted objects) ps fs answer
        → (answer : Result (List Package) Cause) × Formats inputs wanted (p ∷ ps) (f ∷ fs) answer
    by_rest objects is (Err refusal, later) = (Err refusal, broken_later wanted p ps f fs objects refusal is later)
    by_rest objects is (Ok packages, later) = (Ok (package_of_file p f objects ∷ packages), whole wanted p ps f fs objects packages is later)

    by_file : ((w : ObjectRules) → (answer : Result (List Package) Cause) × Formats inputs w ps fs answer) → (answer : Result (List ObjectEntry) PackageBad) × PackageFile wanted f answer
        → (answer : Result (List Package) Cause) × Formats inputs wanted (p ∷ ps) (f ∷ fs) answer
    by_file later (Err fault, is) = (Err (refusal_of (file_of inputs p) fault), broken wanted p ps f fs fault is)
    by_file later (Ok objects, is) = by_rest objects is (later (rules_after wanted objects))

-- a refusal that is found, or none
found_or_clear : (refusal : Option Cause) → ((c : Cause) × (refusal ≡ Some c)) ⊎ ((c : Cause) → refusal ≡ Some c → ⊥)
found_or_clear None = inr (λ c e. let none : Option Cause = None in let bad : none ≡ Some c = e in cc)
found_or_clear (Some c) = inl (c, refl)

wave_some : (inputs : LoadInputs) (files : Contents) (earlier : List Package) (paths : List (List ℕ)) → IsSomeAt (Wave inputs files earlier) paths
wave_some inputs files earlier paths =
    then_some paths (reads_some inputs files (file_limit - file_bytes earlier) paths)
    (λ read h. then_some read (formats_some inputs (rules_so_far earlier) paths read (reads_long (file_limit - file_bytes earlier) paths read h))
    (λ wave k. then_some wave (finds_some wave (found_or_clear (fingerprint_refusal earlier wave)))
    (λ same m. finds_some same (found_or_clear (missing_refusal inputs.listed earlier same)))))

-- the packages of a wave have its paths
pub wave_paths : (inputs : LoadInputs) (files : Contents) (earlier : List Package) (paths : List (List ℕ)) (wave : List Package) → Wave inputs files earlier paths (Ok wave) → paths_of wave ≡ paths
wave_paths inputs files earlier paths wave w =
    let read = then_given paths wave w in
    let made = then_given read.0 wave read.2 in
    let compared = then_given made.0 wave made.2 in
    let same : made.0 ≡ wave = finds_given made.0 compared.0 compared.1 ∙ finds_given compared.0 wave compared.2 in
    let own : paths_of made.0 ≡ paths = formats_paths inputs (rules_so_far earlier) paths read.0 made.0 made.1 in
    ap paths_of (sym same) ∙ own

wave_long : (inputs : LoadInputs) (files : Contents) (earlier : List Package) (paths : List (List ℕ)) (wave : List Package) → Wave inputs files earlier paths (Ok wave) → length wave ≡ length paths
wave_long inputs files earlier paths wave w = sym (length-map wave (λ p. p.path)) ∙ ap length (wave_paths inputs files earlier paths wave w)

-- `left` more packages may be loaded
loads_some : (left : ℕ) (inputs : LoadInputs) (files : Contents) (earlier : List Package) (paths : List (List ℕ))
    → 0 < length paths → length earlier + length paths ≤ package_limit → package_limit ≤ length earlier + left
    → (answer : Result (List Package) Cause) × Loads inputs files earlier paths answer
loads_some zero inputs files earlier paths some few most = absurd (omega (arith, some, few, most))
loads_some (suc left) inputs files earlier paths some few most =
    by_wave (λ all next a b c. loads_some left inputs files all next a b c) (wave_some inputs files earlier paths)
  where
    LoadsLater : Type 0
    LoadsLater = (all : List Package) (next : List (List ℕ)) → 0 < length next → length all + length next ≤ package_limit → package_limit ≤ length all + left
        → (answer : Result (List Package) Cause) × Loads inputs files all next answer

    by_later : (wave : List Package) → Wave inputs files earlier paths (Ok wave) → 0 < length (next_wave earlier wave) → listed_count earlier wave ≤ package_limit
        → (answer : Result (List Package) Cause) × Loads inputs files (earlier ++ wave) (next_wave earlier wave) answer
        → (answer : Result (List Package) Cause) × Loads inputs files earlier paths answer
    by_later wave w more within (answer, later) = (answer, further earlier paths wave answer w more within later)

    by_count : LoadsLater → (wave : List Package) → Wave inputs files earlier paths (Ok wave) → 0 < length (next_wave earlier wave)
        → (answer : Result (List Package) Cause) × Loads inputs files earlier paths answer
    by_count later wave w more = elim (cases_lt package_limit (listed_count earlier wave)) [
      | inl many ↦ (Err (cause.TooLarge limit.Packages (listed_count earlier wave)), crowded earlier paths wave w more many)
      | inr within ↦
          let long = wave_long inputs files earlier paths wave w in
          let all = length-append earlier wave in
          by_later wave w more within (later (earlier ++ wave) (next_wave earlier wave) more (omega (arith, all, within)) (omega (arith, all, long, some, most)))
    ]

    by_next : LoadsLater → (wave : List Package) → Wave inputs files earlier paths (Ok wave) → (next : List (List ℕ)) → next_wave earlier wave ≡ next
        → (answer : Result (List Package) Cause) × Loads inputs files earlier paths answer
    by_next later wave w [] none = (Ok (earlier ++ wave), last earlier paths wave w none)
    by_next later wave w (path ∷ next) is = by_count later wave w (let long = ap length is in omega (arith, long))

    by_wave : LoadsLater → IsSomeAt (Wave inputs files earlier) paths → (answer : Result (List Package) Cause) × Loads inputs files earlier paths answer
    by_wave later (Err refusal, w) = (Err refusal, refused earlier paths refusal w)
    by_wave later (Ok wave, w) = by_next later wave w (next_wave earlier wave) refl

first_few : (listed : List ℕ → Option (List ℕ)) → (0 < length (first_wave listed)) × (length (first_wave listed) ≤ 2)
unfolding first_wave
first_few listed = by_runtime (listed runtime_package) refl
  where
    by_runtime : (file : Option (List ℕ)) → listed runtime_package ≡ file → (0 < length (first_wave listed)) × (length (first_wave listed) ≤ 2)
    by_runtime None e = rw e (omega arith, omega arith)
    by_runtime (Some file) e = rw e (omega arith, omega arith)

pub some_load : (inputs : LoadInputs) (files : Contents) → (answer : Result (List Package) Cause) × IsLoad inputs files answer
some_load inputs files =
    let first = first_few inputs.listed in
    loads_some package_limit inputs files [] (first_wave inputs.listed) first.0 (omega (arith, first.1)) (omega arith)
