-- How far loading has come between two waves, and what one wave adds.
use Rattle.std.specs.Prelude.{◌≡◌, ◌≤◌, ◌<◌, ◌++◌, ℕ, List, Option, Result, Ok, true, false, length, take, drop, All}
use Rattle.glk_cause.specs.declared.cause.Cause.{Cause}
use Rattle.glk_io.specs.Contents.{Contents, IfKnown}
use Rattle.glk_arena.specs.declared.imports.ImportRef.{ImportRef}
use Rattle.glk_arena.specs.declared.waves.Loading.{Loading}
use Rattle.glk_arena.specs.World.{Package, paths_of, package_limit}
use Rattle.glk_arena.specs.Imports.{Import, imports_of, is_among, unsafe_package}
use Rattle.glk_arena.specs.ImportRefs.{AreImportsOf}
use Rattle.glk_arena.specs.Waves.{LoadInputs, Loads, IsLoad, next_wave, is_known}
use Rattle.glk_arena.specs.LoadParts.{HasFile, WaveTo}

-- the import asks for no further package than these
abbrev pub IsKnown : List (List ℕ) → Import → Type 0
IsKnown names i = is_known names i.imported ≡ true

-- what the rest loads to, all loads to
abbrev pub LoadsOn : LoadInputs → Option Contents → List Package → List (List ℕ) → Type 0
LoadsOn inputs contents list paths =
    IfKnown contents (λ files. (answer : Result (List Package) Cause) → Loads inputs files list paths answer → IsLoad inputs files answer)

-- These packages are loaded, and these paths are listed: those of the packages, and those of the next wave. Imports before the one
-- at `compared` ask for loaded packages, and all for listed ones.
pub record IsBetweenWaves (inputs : LoadInputs) (contents : Option Contents) (names : List (List ℕ)) (list : List Package) (refs : List ImportRef) (compared : ℕ) : Type 0 where
  pub paths : paths_of list ≡ take (length list) names
  pub some : length list < length names
  pub few : length names ≤ package_limit
  pub refs_are : AreImportsOf list list refs
  pub within : compared ≤ length refs
  pub closed : All (IsKnown (paths_of list)) (take compared (imports_of list))
  pub known : All (IsKnown names) (imports_of list)
  pub clean : is_among names unsafe_package ≡ false
  pub files : All (HasFile inputs) names
  pub on : LoadsOn inputs contents list (drop (length list) names)

-- A wave is loaded after the earlier packages, and the next one is listed.
pub record AddsPackages (inputs : LoadInputs) (contents : Option Contents) (names : List (List ℕ)) (list : List Package) (known : ℕ) (more : List (List ℕ)) (refs : List ImportRef) (now : List Package) : Type 0 where
  pub wave : List Package
  pub now_is : now ≡ list ++ wave
  pub paths : paths_of now ≡ names
  pub good : WaveTo inputs contents list (drop (length list) names) (Ok wave)
  pub listed : more ≡ names ++ next_wave list wave
  pub refs_are : AreImportsOf now now refs
  pub within : known ≤ length refs
  pub closed : All (IsKnown names) (take known (imports_of now))
  pub all_known : All (IsKnown more) (imports_of now)
  pub clean : is_among more unsafe_package ≡ false
  pub files : All (HasFile inputs) more

-- the same of what the loop holds between two waves
abbrev pub IsLoading : LoadInputs → Option Contents → Loading → Type 0
IsLoading inputs contents loading = IsBetweenWaves inputs contents loading.names loading.list loading.refs.items loading.compared

-- the same of what one wave makes of it: all imports from before are compared with that wave at the latest
pub record IsWaveOf (inputs : LoadInputs) (contents : Option Contents) (before now : Loading) : Type 0 where
  pub adds : AddsPackages inputs contents before.names before.list (length before.refs.items) now.names now.refs.items now.list
  pub compared_is : now.compared ≡ length before.refs.items
