-- What the parts of loading answer.
use Rattle.std.specs.Prelude.{◌≡◌, ℕ, Bool, map, List, Option, Result, Ok, Err, length, ◌++◌, ◌-◌, ◌&&◌, take, drop}
use Rattle.std.specs.List.{find}
use Rattle.std.specs.Option.{option_map, option_or}
use Rattle.glk_base.specs.Limits.{file_limit}
use Rattle.glk_base.specs.declared.fault.Fault.{Fault}
use Rattle.glk_io.specs.Contents.{Contents, IfKnown}
use Rattle.glk_io.specs.Changes.{FileState}
use Rattle.glk_cause.specs.declared.cause.Cause.{Cause}
use Rattle.glk_cause.specs.declared.cause.Cause.TheVariants as cause
use Rattle.glk_cause.specs.Reading.{AnswersByReading}
use Rattle.glk_package.specs.declared.refusal.PackageBad.{PackageBad}
use Rattle.glk_package.specs.ObjectRules.{ObjectRules}
use Rattle.glk_package.specs.ObjectEntry.{ObjectEntry}
use Rattle.glk_package.specs.Package.{PackageFile}
use Rattle.glk_arena.specs.declared.config.Config.{Config}
use Rattle.glk_arena.specs.declared.loader.Loader.{Loader}
use Rattle.glk_arena.specs.declared.imports.WaveImports.{WaveImports}
use Rattle.glk_arena.specs.declared.stored.StoredObjects.{StoredObjects}
use Rattle.glk_arena.specs.ConfigViews.{file_in}
use Rattle.glk_arena.specs.Stored.{Stores}
use Rattle.glk_package.specs.PackageRefusal.{refusal_of, IsRefusedFor}
use Rattle.glk_arena.specs.World.{Package, package_of_file, file_bytes}
use Rattle.glk_arena.specs.Imports.{Import, imports_of, fingerprint_in, is_compared, is_unequal}
use Rattle.glk_arena.specs.Waves.{LoadInputs, Reads, FormatsAfter, first_uses, Wave, IsLoad, IsPackagePath, IsOfPackages, is_missing, file_of}

-- what a load is of, with this main file and configuration
abbrev pub inputs_of : List ℕ → Config → LoadInputs
inputs_of main config = record { main = main; listed = file_in config }

-- the same of a call
abbrev pub inputs_by : Loader → LoadInputs
inputs_by loader = inputs_of loader.main.now loader.config.now

-- a path's file is the main file, or listed
abbrev pub HasFile : LoadInputs → List ℕ → Type 0
HasFile inputs path = IsPackagePath inputs.main inputs.listed (file_of inputs path)

-- what a call answers that reads the files of paths in order, of which `limit` bytes may be read
abbrev pub ReadsPaths : {C : Type 0} → FileState → FileState → LoadInputs → ℕ → List (List ℕ) → (C → List (List ℕ)) → Result C (Fault Cause) → Type 0
ReadsPaths old new inputs limit paths view result =
    AnswersByReading old new (IsOfPackages inputs) (λ files. Reads inputs files limit paths) view result

-- a file of a package is objects, which make this package
pub record IsPackageIn (wanted : ObjectRules) (path file : List ℕ) (p : Package) : Type 0 where
  pub objects : List ObjectEntry
  pub holds : PackageFile wanted file (Ok objects)
  pub is : p ≡ package_of_file path file objects

-- a file at this path is refused so
abbrev pub IsFormatRefusal : ObjectRules → List ℕ → List ℕ → Cause → Type 0
IsFormatRefusal wanted file path refusal = (broken : PackageBad) × PackageFile wanted file (Err broken) × (refusal ≡ refusal_of path broken)

-- packages with those of a wave after them
pub record AddsWave (inputs : LoadInputs) (earlier : List Package) (paths files : List (List ℕ)) (now : List Package) : Type 0 where
  pub wave : List Package
  pub now_is : now ≡ earlier ++ wave
  pub formats : FormatsAfter inputs earlier paths files (Ok wave)

-- known files make such a wave after earlier packages
abbrev pub WaveTo : LoadInputs → Option Contents → List Package → List (List ℕ) → Result (List Package) Cause → Type 0
WaveTo inputs contents earlier paths answer = IfKnown contents (λ files. Wave inputs files earlier paths answer)

-- the files of a wave were read, and its packages are after the earlier ones
pub record ReadsWave (inputs : LoadInputs) (contents : Option Contents) (earlier : List Package) (paths : List (List ℕ)) (now : List Package) : Type 0 where
  pub files : List (List ℕ)
  pub reads : IfKnown contents (λ held. Reads inputs held (file_limit - file_bytes earlier) paths (Ok files))
  pub adds : AddsWave inputs earlier paths files now

-- why a wave is not loaded after earlier packages
abbrev pub RefusesWave : FileState → FileState → LoadInputs → List Package → List (List ℕ) → Fault Cause → Type 0
RefusesWave old new inputs earlier paths stop =
    let answer : Result (List Package) (Fault Cause) = Err stop in
    AnswersByReading old new (IsOfPackages inputs) (λ files. Wave inputs files earlier paths) (λ packages. packages) answer

-- what loading answers
abbrev pub LoadAnswer : FileState → FileState → LoadInputs → Result (List Package) (Fault Cause) → Type 0
LoadAnswer old new inputs result = AnswersByReading old new (IsOfPackages inputs) (IsLoad inputs) (λ packages. packages) result

-- why nothing is loaded
abbrev pub RefusesLoad : FileState → FileState → LoadInputs → Fault Cause → Type 0
RefusesLoad old new inputs stop = LoadAnswer old new inputs (Err stop)

-- the import is compared with the wave after the first `earlier` of these names, and is unequal
abbrev pub is_refused : List Package → List (List ℕ) → ℕ → Import → Bool
is_refused world names earlier i = is_compared (take earlier names) names i && is_unequal world i

-- the first import from `from` on that is compared with the wave after the first `earlier` names, and is unequal
abbrev pub unequal_import : List Package → List (List ℕ) → ℕ → ℕ → Option Import
unequal_import world names earlier from = find (is_refused world names earlier) (drop from (imports_of world))

-- the first import from `from` on that is neither `unsafe`, nor loaded, nor listed
abbrev pub missing_import : List Package → (List ℕ → Option (List ℕ)) → List (List ℕ) → ℕ → Option Import
missing_import world listed names from = find (is_missing listed names) (drop from (imports_of world))

-- what the imports from `from` on ask for further
abbrev pub next_imports : List (List ℕ) → List Package → ℕ → List (List ℕ)
next_imports names world from = first_uses names (drop from (map (λ i. i.imported) (imports_of world)))

-- what is stored is that of the objects of a file, which have in common what these rules ask
pub record HoldsStored (rules : ObjectRules) (file : List ℕ) (stored : StoredObjects) : Type 0 where
  pub objects : List ObjectEntry
  pub holds : PackageFile rules file (Ok objects)
  pub stores : Stores file objects stored

-- the packages of a wave, whose names are those after the earlier packages, are after these
abbrev pub AppendsWave : LoadInputs → List Package → List (List ℕ) → List (List ℕ) → List Package → Type 0
AppendsWave inputs earlier names files now = AddsWave inputs earlier (drop (length earlier) names) files now

-- why the formats of the files of a wave are refused
abbrev pub RefusesFormats : LoadInputs → List Package → List (List ℕ) → List (List ℕ) → Fault Cause → Type 0
RefusesFormats inputs earlier names files stop =
    IsRefusedFor (λ refusal. FormatsAfter inputs earlier (drop (length earlier) names) files (Err refusal)) stop

-- the files of a wave were read, and its packages are after the earlier ones
abbrev pub LoadsFiles : FileState → LoadInputs → List Package → List (List ℕ) → List Package → Type 0
LoadsFiles state inputs earlier names now = ReadsWave inputs state.contents earlier (drop (length earlier) names) now

-- why they are not
abbrev pub RefusesFiles : FileState → FileState → LoadInputs → List Package → List (List ℕ) → Fault Cause → Type 0
RefusesFiles old new inputs earlier names stop = RefusesWave old new inputs earlier (drop (length earlier) names) stop

-- the first import that is compared and differs, as a refusal
abbrev pub unequal_from : List Package → List (List ℕ) → ℕ → List Import → Option Cause
unequal_from world names earlier imports =
    option_map (λ i. cause.Fingerprint i.importer i.imported i.wanted (fingerprint_in world i.imported))
    (find (is_refused world names earlier) imports)

-- the first import that is missing, as a refusal
abbrev pub missing_from : (List ℕ → Option (List ℕ)) → List (List ℕ) → List Import → Option Cause
missing_from listed names imports = option_map (λ i. cause.MissingPackage i.importer i.imported) (find (is_missing listed names) imports)

-- the refusal of a wave for an import: the first that differs from import `compared` on, or the first that is missing from
-- import `known` on
abbrev pub import_refusal_of : List Package → (List ℕ → Option (List ℕ)) → List (List ℕ) → ℕ → ℕ → ℕ → Option Cause
import_refusal_of world listed names earlier compared known =
    option_or (unequal_from world names earlier (drop compared (imports_of world))) (missing_from listed names (drop known (imports_of world)))

-- the same of a call
abbrev pub refusal_by : WaveImports → Option Cause
refusal_by wave = import_refusal_of wave.list.now (file_in wave.config.now) wave.names.now wave.earlier wave.compared wave.known
