-- The paths of loaded packages: no two are one, and the first is the main file's.
use Rattle.std.proofs.Common.{◌≡◌, ◌∙◌, ◌<◌, ◌++◌, ◌||◌, ℕ, zero, suc, Bool, true, false, true≢false, List, [], ◌∷◌, length, length-append, get_or, map, Option, Some, None, Result, Ok, Err, refl, sym, ap, subst, arith}
use Rattle.std.specs.Str.{bytes_eq}
use Rattle.std.specs.Cmp.Lexicographic.{bytes_decides}
use Rattle.std.proofs.lemmas.List.{map-append, get_or_append_left}
use Rattle.std.proofs.lemmas.List.Quantifiers.{all_pairs_push}
use Rattle.glk_io.specs.Contents.{Contents}
use Rattle.glk_cause.specs.declared.cause.Cause.{Cause}
use Rattle.glk_arena.specs.World.{Package, paths_of}
use Rattle.glk_arena.specs.Imports.{is_among, imports_of}
use Rattle.glk_arena.specs.Waves.{LoadInputs, Wave, Loads, refused, last, crowded, further, is_known, first_wave, next_wave, main_package, runtime_package, AreOwnPaths, HasOwnPaths}
use Rattle.glk_arena.proofs.ImportLemmas.{grown, grown_passed, grown_new, grown_nil, not_among}
use Rattle.glk_arena.proofs.WaveSteps.{first_alone, first_listed}
use Rattle.glk_arena.proofs.SomeLoad.{wave_paths}

abbrev Differ : List ℕ → List ℕ → Type 0
Differ one other = one ≡ other → ⊥

both_false : (a b : Bool) → (a || b) ≡ false → (a ≡ false) × (b ≡ false)
both_false true b h = absurd (true≢false h)
both_false false b h = (refl, h)

-- a path that is not among others is none of them
apart : (known : List (List ℕ)) (name : List ℕ) → is_among known name ≡ false → (k : ℕ) (d : List ℕ) → k < length known → get_or known k d ≡ name → ⊥
apart [] name none k d l e = absurd (omega (arith, l))
apart (x ∷ known) name none zero d l e = true≢false (sym ((bytes_decides name x).1 (sym e)) ∙ (both_false (bytes_eq name x) (is_among known name) none).0)
apart (x ∷ known) name none (suc k) d l e = apart known name (both_false (bytes_eq name x) (is_among known name) none).1 k d (omega (arith, l)) e

-- one path more, and those that a list asks for further
own_push : (known : List (List ℕ)) (name : List ℕ) → is_among known name ≡ false → AreOwnPaths known → AreOwnPaths (known ++ name ∷ [])
own_push known name none own = record {
  some = omega (arith, own.some, length-append known (name ∷ []));
  main = get_or_append_left known (name ∷ []) [] 0 own.some ∙ own.main;
  differ = all_pairs_push Differ known name own.differ (apart known name none);
}

own_more : (names known : List (List ℕ)) → AreOwnPaths known → AreOwnPaths (grown known names)
own_more [] known own = subst AreOwnPaths (sym (grown_nil known)) own
own_more (name ∷ names) known own = by_test (λ k o. own_more names k o) (is_known known name) refl
  where
    by_test : ((k : List (List ℕ)) → AreOwnPaths k → AreOwnPaths (grown k names)) → (b : Bool) → is_known known name ≡ b → AreOwnPaths (grown known (name ∷ names))
    by_test later true h = subst AreOwnPaths (sym (grown_passed known names name h)) (later known own)
    by_test later false h = subst AreOwnPaths (sym (grown_new known names name h)) (later (known ++ name ∷ []) (own_push known name (not_among known name h) own))

-- the first wave
alone : AreOwnPaths (main_package ∷ [])
alone = record { some = omega arith; main = refl; differ = all_pairs_push Differ [] main_package (λ i j d a b. absurd (omega (arith, b))) (λ k d l e. absurd (omega (arith, l))) }

own_first : (listed : List ℕ → Option (List ℕ)) → AreOwnPaths (first_wave listed)
own_first listed = by_runtime (listed runtime_package) refl
  where
    by_runtime : (file : Option (List ℕ)) → listed runtime_package ≡ file → AreOwnPaths (first_wave listed)
    by_runtime None e = subst AreOwnPaths (sym (first_alone listed e)) alone
    by_runtime (Some file) e = subst AreOwnPaths (sym (first_listed listed file e)) (own_push (main_package ∷ []) runtime_package refl alone)

-- a wave, and the next
own_wave : (inputs : LoadInputs) (files : Contents) (earlier : List Package) (paths : List (List ℕ)) (wave : List Package)
    → Wave inputs files earlier paths (Ok wave) → AreOwnPaths (paths_of earlier ++ paths) → AreOwnPaths (paths_of (earlier ++ wave))
own_wave inputs files earlier paths wave w own =
    subst AreOwnPaths (sym (map-append (λ p. p.path) earlier wave ∙ ap (λ ps. paths_of earlier ++ ps) (wave_paths inputs files earlier paths wave w))) own

own_next : (earlier wave : List Package) → AreOwnPaths (paths_of (earlier ++ wave)) → AreOwnPaths (paths_of (earlier ++ wave) ++ next_wave earlier wave)
unfolding next_wave
own_next earlier wave own = own_more (map (λ i. i.imported) (imports_of wave)) (paths_of (earlier ++ wave)) own

abbrev loaded : List Package → Result (List Package) Cause
loaded w = Ok w

same_packages : (a b : List Package) → loaded a ≡ Ok b → a ≡ b
same_packages a b e = cc

no_packages : (refusal : Cause) (b : List Package) → (let r : Result (List Package) Cause = Err refusal in r) ≡ Ok b → ⊥
no_packages refusal b e = cc

own_loads : (inputs : LoadInputs) (files : Contents) (earlier : List Package) (paths : List (List ℕ)) (answer : Result (List Package) Cause) (world : List Package)
    → AreOwnPaths (paths_of earlier ++ paths) → Loads inputs files earlier paths answer → answer ≡ Ok world → AreOwnPaths (paths_of world)
own_loads inputs files earlier paths answer world own (refused a p refusal h) e = absurd (no_packages refusal world e)
own_loads inputs files earlier paths answer world own (last a p wave h none) e =
    subst (λ (v : List Package). AreOwnPaths (paths_of v)) (same_packages (a ++ wave) world e) (own_wave inputs files a p wave h own)
own_loads inputs files earlier paths answer world own (crowded a p wave h some many) e = absurd (no_packages _ world e)
own_loads inputs files earlier paths answer world own (further a p wave r h some few later) e =
    own_loads inputs files (a ++ wave) _ r world (own_next a wave (own_wave inputs files a p wave h own)) later e

pub own_paths : HasOwnPaths
own_paths inputs files world h = own_loads inputs files [] (first_wave inputs.listed) (Ok world) world (own_first inputs.listed) h refl
