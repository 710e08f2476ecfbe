-- The waves in which packages are loaded, and the first refusal on the way: lists alone.
use Rattle.std.specs.Prelude.{◌≡◌, ◌+◌, ◌-◌, ◌<◌, ◌≤◌, ◌++◌, ◌||◌, ◌&&◌, ◌⊎◌, not, ℕ, Bool, List, [], ◌∷◌, map, length, get_or, codes, Option, Some, Result, Ok, Err, ⊤, if◌then◌else◌}
use Rattle.std.specs.List.{find, AllPairs}
use Rattle.std.specs.Option.{unwrap_or, is_none, option_map}
use Rattle.std.specs.Str.{bytes_eq}
use Rattle.glk_cause.specs.declared.cause.Cause.{Cause}
use Rattle.glk_cause.specs.declared.cause.Cause.TheVariants as cause
use Rattle.glk_cause.specs.declared.cause.Limit.TheVariants as limit
use Rattle.glk_io.specs.Contents.{Contents}
use Rattle.glk_cause.specs.Chain.{Then, Gives, Finds, Along}
use Rattle.glk_cause.specs.Reading.{IsWhole}
use Rattle.glk_cause.specs.Sorts.{Sort, by_reads, of_file, of_package, of_link}
use Rattle.glk_package.specs.ObjectEntry.{ObjectEntry}
use Rattle.glk_package.specs.Package.{PackageFile}
use Rattle.glk_package.specs.ObjectRules.{ObjectRules, rules_after}
use Rattle.glk_package.specs.declared.refusal.PackageBad.{PackageBad}
use Rattle.glk_package.specs.PackageRefusal.{refusal_of}
use Rattle.glk_arena.specs.World.{Package, paths_of, package_of_file, rules_so_far, file_bytes, package_limit}
use Rattle.glk_base.specs.Limits.{file_limit}
use Rattle.glk_arena.specs.Imports.{Import, imports_of, is_among, unsafe_package, fingerprint_in, first_unequal}

-- what a load is of: the path of the main file, and the file of each package that the configuration lists
pub record LoadInputs : Type 0 where
  pub main : List ℕ
  pub listed : List ℕ → Option (List ℕ)

-- the path of the main file's package
abbrev pub main_package : List ℕ
main_package = codes "main"

-- the package that is loaded where it is listed, whoever imports it
abbrev pub runtime_package : List ℕ
runtime_package = codes "runtime"

-- where a package is; one that is no `main` and is not listed is in no wave
unfoldable pub file_of : LoadInputs → List ℕ → List ℕ
file_of inputs path = if bytes_eq path main_package then inputs.main else unwrap_or (inputs.listed path) []

-- what is left to read after a file
abbrev pub Takes : ℕ → List ℕ → ℕ × List ℕ → Type 0
Takes left file taken = taken ≡ (left - length file, file)

-- the file of a package is read whole, of the bytes that are left
abbrev pub ReadsOne : LoadInputs → Contents → ℕ → List ℕ → Result (ℕ × List ℕ) Cause → Type 0
ReadsOne inputs files left path = Then (λ p. IsWhole (file_of inputs p) left file_limit files) (Gives (Takes left)) path

-- Part 1 of a wave: its files are read in order, of which that many bytes may be read.
abbrev pub Reads : LoadInputs → Contents → ℕ → List (List ℕ) → Result (List (List ℕ)) Cause → Type 0
Reads inputs files = Along (ReadsOne inputs files)

-- Part 2: the files of these packages are objects, which have in common what is wanted: their lines, and the length of their long
-- hashes. They make these packages, or this is the first refusal.
pub data Formats (inputs : LoadInputs) : ObjectRules → List (List ℕ) → List (List ℕ) → Result (List Package) Cause → Type 0 where
  all_whole : (wanted : ObjectRules) → Formats inputs wanted [] [] (Ok [])
  broken : (wanted : ObjectRules) (path : List ℕ) (paths : List (List ℕ)) (file : List ℕ) (files : List (List ℕ)) (fault : PackageBad) → PackageFile wanted file (Err fault)
      → Formats inputs wanted (path ∷ paths) (file ∷ files) (Err (refusal_of (file_of inputs path) fault))
  whole : (wanted : ObjectRules) (path : List ℕ) (paths : List (List ℕ)) (file : List ℕ) (files : List (List ℕ)) (objects : List ObjectEntry) (later : List Package) → PackageFile wanted file (Ok objects)
      → Formats inputs (rules_after wanted objects) paths files (Ok later)
      → Formats inputs wanted (path ∷ paths) (file ∷ files) (Ok (package_of_file path file objects ∷ later))
  broken_later : (wanted : ObjectRules) (path : List ℕ) (paths : List (List ℕ)) (file : List ℕ) (files : List (List ℕ)) (objects : List ObjectEntry) (refusal : Cause) → PackageFile wanted file (Ok objects)
      → Formats inputs (rules_after wanted objects) paths files (Err refusal)
      → Formats inputs wanted (path ∷ paths) (file ∷ files) (Err refusal)

-- Part 3: the first import whose fingerprint differs, as a refusal
abbrev pub fingerprint_refusal : List Package → List Package → Option Cause
fingerprint_refusal earlier wave =
    option_map (λ i. cause.Fingerprint i.importer i.imported i.wanted (fingerprint_in (earlier ++ wave) i.imported)) (first_unequal earlier wave)

-- Part 4: the first import of the wave that is neither `unsafe`, nor loaded, nor listed, as a refusal
unfoldable pub is_missing : (List ℕ → Option (List ℕ)) → List (List ℕ) → Import → Bool
is_missing listed loaded i = not (bytes_eq i.imported unsafe_package) && (not (is_among loaded i.imported) && is_none (listed i.imported))

abbrev pub missing_refusal : (List ℕ → Option (List ℕ)) → List Package → List Package → Option Cause
missing_refusal listed earlier wave =
    option_map (λ i. cause.MissingPackage i.importer i.imported) (find (is_missing listed (paths_of (earlier ++ wave))) (imports_of wave))

-- the formats of the files of a wave after earlier packages
abbrev pub FormatsAfter : LoadInputs → List Package → List (List ℕ) → List (List ℕ) → Result (List Package) Cause → Type 0
FormatsAfter inputs earlier paths = Formats inputs (rules_so_far earlier) paths

-- A wave after earlier packages: all of it is loaded, or this is its first refusal, part by part.
abbrev pub Wave : LoadInputs → Contents → List Package → List (List ℕ) → Result (List Package) Cause → Type 0
Wave inputs files earlier paths =
    Then (Reads inputs files (file_limit - file_bytes earlier))
    (Then (FormatsAfter inputs earlier paths)
    (Then (Finds (λ wave refusal. fingerprint_refusal earlier wave ≡ Some refusal))
    (Finds (λ wave refusal. missing_refusal inputs.listed earlier wave ≡ Some refusal)))) paths

-- the path asks for no further package: it is `unsafe`, or among the known ones
abbrev pub is_known : List (List ℕ) → List ℕ → Bool
is_known known path = bytes_eq path unsafe_package || is_among known path

-- the list of first uses: each path once, without the known ones
unfoldable pub first_uses : List (List ℕ) → List (List ℕ) → List (List ℕ)
first_uses known [] = []
first_uses known (path ∷ later) = if is_known known path then first_uses known later else path ∷ first_uses (known ++ path ∷ []) later

-- the wave after this one: what its packages import, packages and entries in order
unfoldable pub next_wave : List Package → List Package → List (List ℕ)
next_wave earlier wave = first_uses (paths_of (earlier ++ wave)) (map (λ i. i.imported) (imports_of wave))

-- the first wave: the main file, and `runtime` where it is listed
unfoldable pub first_wave : (List ℕ → Option (List ℕ)) → List (List ℕ)
first_wave listed = main_package ∷ (if is_none (listed runtime_package) then [] else runtime_package ∷ [])

-- how many packages are listed with the next wave
abbrev pub listed_count : List Package → List Package → ℕ
listed_count earlier wave = length earlier + length wave + length (next_wave earlier wave)

-- From a wave on: the packages in load order, or the first refusal. Too many packages are refused as a wave is listed, before its reads.
pub data Loads (inputs : LoadInputs) (files : Contents) : List Package → List (List ℕ) → Result (List Package) Cause → Type 0 where
  refused : (earlier : List Package) (paths : List (List ℕ)) (refusal : Cause) → Wave inputs files earlier paths (Err refusal) → Loads inputs files earlier paths (Err refusal)
  last : (earlier : List Package) (paths : List (List ℕ)) (wave : List Package) → Wave inputs files earlier paths (Ok wave) → next_wave earlier wave ≡ []
      → Loads inputs files earlier paths (Ok (earlier ++ wave))
  crowded : (earlier : List Package) (paths : List (List ℕ)) (wave : List Package) → Wave inputs files earlier paths (Ok wave) → 0 < length (next_wave earlier wave)
      → package_limit < listed_count earlier wave
      → Loads inputs files earlier paths (Err (cause.TooLarge limit.Packages (listed_count earlier wave)))
  further : (earlier : List Package) (paths : List (List ℕ)) (wave : List Package) (answer : Result (List Package) Cause) → Wave inputs files earlier paths (Ok wave) → 0 < length (next_wave earlier wave)
      → listed_count earlier wave ≤ package_limit → Loads inputs files (earlier ++ wave) (next_wave earlier wave) answer → Loads inputs files earlier paths answer

-- what is loaded of a main file: the packages in load order, or the first refusal
abbrev pub IsLoad : LoadInputs → Contents → Result (List Package) Cause → Type 0
IsLoad inputs files answer = Loads inputs files [] (first_wave inputs.listed) answer

-- there is one: a law that a public function promises
abbrev pub IsOneLoad : Type 0
IsOneLoad =
    (inputs : LoadInputs) (files : Contents) (one other : Result (List Package) Cause)
    → IsLoad inputs files one → IsLoad inputs files other → one ≡ other

-- Known files load to a list of packages, or have a first refusal: no wave is without end, since packages are few.
abbrev pub IsSomeLoad : Type 0
IsSomeLoad = (inputs : LoadInputs) (files : Contents) → (answer : Result (List Package) Cause) × IsLoad inputs files answer

-- No two of these paths are one, and the first is the main file's.
pub record AreOwnPaths (paths : List (List ℕ)) : Type 0 where
  pub some : 0 < length paths
  pub main : get_or paths 0 [] ≡ main_package
  pub differ : AllPairs (λ one other. one ≡ other → ⊥) paths

-- So are the paths of all that is loaded.
abbrev pub HasOwnPaths : Type 0
HasOwnPaths = (inputs : LoadInputs) (files : Contents) (world : List Package) → IsLoad inputs files (Ok world) → AreOwnPaths (paths_of world)

-- a file that loading may read: the main file, or one that the configuration lists
abbrev pub IsPackagePath : List ℕ → (List ℕ → Option (List ℕ)) → List ℕ → Type 0
IsPackagePath main listed path = (path ≡ main) ⊎ ((name : List ℕ) × (listed name ≡ Some path))

-- the refusals of loading, and the paths that they name
abbrev pub IsOfPackages : LoadInputs → Sort → Type 0
IsOfPackages inputs (by_reads path count) = IsPackagePath inputs.main inputs.listed path
IsOfPackages inputs (of_file path) = IsPackagePath inputs.main inputs.listed path
IsOfPackages inputs (of_package path) = IsPackagePath inputs.main inputs.listed path
IsOfPackages inputs of_link = ⊤
IsOfPackages inputs sort = ⊥
