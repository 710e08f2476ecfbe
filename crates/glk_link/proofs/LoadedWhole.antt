-- The packages of a load are whole: their objects break no rule, and are no longer together than their files.
use Rattle.std.proofs.Common.{◌≡◌, List, [], ◌∷◌, ◌++◌, ℕ, All, Ok, Err, refl, ◌∙◌, subst}
use Rattle.std.specs.Prelude.{Result}
use Rattle.std.proofs.lemmas.List.Elements.{All-nil, All-cons, All-append}
use Rattle.glk_cause.specs.declared.cause.Cause.{Cause}
use Rattle.glk_cause.proofs.ChainLaws.{then_given, finds_given}
use Rattle.glk_io.specs.Contents.{Contents}
use Rattle.glk_package.specs.ObjectRules.{ObjectRules}
use Rattle.glk_arena.proofs.StoredLemmas.{file_whole}
use Rattle.glk_arena.specs.World.{Package, package_of_file}
use Rattle.glk_arena.specs.Stored.{IsWhole}
use Rattle.glk_arena.specs.Waves.{LoadInputs, Formats, all_whole, broken, whole, broken_later, Wave, Loads, refused, last, crowded, further, IsLoad}

abbrev loaded : List Package → Result (List Package) Cause
loaded w = Ok w

same_packages : (a b : List Package) → loaded a ≡ Ok b → a ≡ b
same_packages a b e = cc

no_packages : (refusal : Cause) (b : List Package) → (let r : Result (List Package) Cause = Err refusal in r) ≡ Ok b → ⊥
no_packages refusal b e = cc

formats_whole : (inputs : LoadInputs) (wanted : ObjectRules) (paths files : List (List ℕ)) (answer : Result (List Package) Cause) (wave : List Package)
    → Formats inputs wanted paths files answer → answer ≡ Ok wave → All IsWhole wave
formats_whole inputs wanted paths files answer wave (all_whole w) e = subst (λ (v : List Package). All IsWhole v) (same_packages [] wave e) (All-nil IsWhole)
formats_whole inputs wanted paths files answer wave (broken w path ps file fs fault h) e = absurd (no_packages _ wave e)
formats_whole inputs wanted paths files answer wave (whole w path ps file fs objects later h rest) e =
    let p : Package = package_of_file path file objects in
    let here : IsWhole p = file_whole w path file objects h in
    subst (λ (v : List Package). All IsWhole v) (same_packages (p ∷ later) wave e)
    (All-cons IsWhole p later here (formats_whole inputs _ ps fs (Ok later) later rest refl))
formats_whole inputs wanted paths files answer wave (broken_later w path ps file fs objects refusal h rest) e = absurd (no_packages refusal wave e)

wave_whole : (inputs : LoadInputs) (files : Contents) (earlier : List Package) (paths : List (List ℕ)) (wave : List Package) → Wave inputs files earlier paths (Ok wave) → All IsWhole wave
wave_whole inputs files earlier paths wave h =
    let read = then_given paths wave h in
    let made = then_given read.0 wave read.2 in
    let compared = then_given made.0 wave made.2 in
    let same : made.0 ≡ wave = finds_given made.0 compared.0 compared.1 ∙ finds_given compared.0 wave compared.2 in
    subst (λ (v : List Package). All IsWhole v) same (formats_whole inputs _ paths read.0 (Ok made.0) made.0 made.1 refl)

loads_whole : (inputs : LoadInputs) (files : Contents) (earlier : List Package) (paths : List (List ℕ)) (answer : Result (List Package) Cause) (world : List Package)
    → All IsWhole earlier → Loads inputs files earlier paths answer → answer ≡ Ok world → All IsWhole world
loads_whole inputs files earlier paths answer world all (refused a p refusal h) e = absurd (no_packages refusal world e)
loads_whole inputs files earlier paths answer world all (last a p wave h none) e =
    subst (λ (v : List Package). All IsWhole v) (same_packages (a ++ wave) world e) (All-append IsWhole a wave all (wave_whole inputs files a p wave h))
loads_whole inputs files earlier paths answer world all (crowded a p wave h some many) e = absurd (no_packages _ world e)
loads_whole inputs files earlier paths answer world all (further a p wave r h some few later) e =
    loads_whole inputs files (a ++ wave) _ r world (All-append IsWhole a wave all (wave_whole inputs files a p wave h)) later e

pub load_whole : (inputs : LoadInputs) (files : Contents) (world : List Package) → IsLoad inputs files (Ok world) → All IsWhole world
load_whole inputs files world h = loads_whole inputs files [] _ (Ok world) world (All-nil IsWhole) h refl
