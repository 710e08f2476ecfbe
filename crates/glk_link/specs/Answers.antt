-- What a link answers.
use Rattle.std.specs.Prelude.{◌≡◌, ◌⊎◌, ℕ, List, Option, Some, Result, Ok, Err, IsSome, ⊤}
use Rattle.glk_base.specs.declared.fault.Fault.{Fault}
use Rattle.glk_base.specs.declared.fault.Fault.TheVariants as fault
use Rattle.glk_io.specs.Counts.{Rose}
use Rattle.glk_io.specs.Contents.{Contents, IfKnown}
use Rattle.glk_io.specs.Changes.{FileState}
use Rattle.glk_cause.specs.declared.cause.Cause.{Cause}
use Rattle.glk_cause.specs.declared.cause.Cause.TheVariants as cause
use Rattle.glk_cause.specs.declared.cause.Form.TheVariants as form
use Rattle.glk_cause.specs.Sorts.{Sort, by_reads, by_writes, of_file, of_package, of_input, of_config, of_options, of_link, foreign}
use Rattle.glk_cause.specs.Reading.{AnswersByReading}
use Rattle.glk_cause.specs.Writing.{AnswersByWriting}
use Rattle.glk_link.specs.Options.{AsksUnbuilt}
use Rattle.glk_link.specs.Config.{Listing, TellsFiles, IsTold, IsConfigPath, IsOfTold}
use Rattle.glk_link.specs.Passes.{Linked, LoadsPackages, IsLink, report_of}
use Rattle.glk_link.specs.Outputs.{told_by, program_by}
use Rattle.glk_link.specs.declared.config_files.ConfigFiles.{ConfigFiles}
use Rattle.glk_link.specs.declared.inputs.Inputs.{Inputs}
use Rattle.glk_link.specs.declared.options.LinkOptions.{LinkOptions}
use Rattle.glk_link.specs.declared.options.Report.{Report}

-- a file that the configuration lists, which is given
pub record IsListedFile (before : Option Contents) (opts : LinkOptions) (path : List ℕ) : Type 0 where
  pub given : IsSome opts.importcfg
  pub listed : IfKnown before (λ files.
      (listed : Listing) × TellsFiles files opts.importcfg (Ok listed) × ((named : List ℕ) × (listed named ≡ Some path)))

-- a file of a package: the main file, or one that the configuration lists
abbrev pub IsPackageFile : Option Contents → LinkOptions → List ℕ → Type 0
IsPackageFile before opts path = (path ≡ opts.main) ⊎ IsListedFile before opts path

-- a file that a link may read: one of its configuration, or one of a package
abbrev pub IsReadPath : Option Contents → LinkOptions → List ℕ → Type 0
IsReadPath before opts path = IsConfigPath opts path ⊎ IsPackageFile before opts path

-- the refusals that there may be, and the paths that they name
abbrev pub MayRefuse : Option Contents → LinkOptions → Sort → Type 0
MayRefuse before opts (by_reads path count) = IsReadPath before opts path
MayRefuse before opts (by_writes path count) = path ≡ opts.out
MayRefuse before opts (of_file path) = IsReadPath before opts path
MayRefuse before opts (of_package path) = IsPackageFile before opts path
MayRefuse before opts (of_input path) = ⊥
MayRefuse before opts (of_config path) = IsConfigPath opts path
MayRefuse before opts of_options = AsksUnbuilt opts
MayRefuse before opts of_link = ⊤
MayRefuse before opts foreign = ⊥

-- the same where no file is written
abbrev pub MayRefuseToLoad : Option Contents → LinkOptions → Sort → Type 0
MayRefuseToLoad before opts (by_writes path count) = ⊥
MayRefuseToLoad before opts sort = MayRefuse before opts sort

-- The answers of a call that reads the configuration of a link: known files tell this, or this is their first refusal, and files
-- are as before; a count of reads rises in the answer alone that reports it.
abbrev pub ToldAnswer : FileState → FileState → LinkOptions → Result ConfigFiles (Fault Cause) → Type 0
ToldAnswer old new opts result = AnswersByReading old new (IsOfTold opts) (λ files. IsTold files opts) (told_by opts) result

-- The answers of a call that loads the packages of a link: known files come to this, or this is their first refusal, and
-- files are as before; a count of reads rises in the answer alone that reports it.
abbrev pub PackagesAnswer : FileState → FileState → LinkOptions → Result Inputs (Fault Cause) → Type 0
PackagesAnswer old new opts result =
    AnswersByReading old new (MayRefuseToLoad old.contents opts) (λ files. LoadsPackages files opts) (program_by opts.entry) result

-- The answers of a link. Known files are linked: the output file is the image, and the report is of what was linked, or
-- the first refusal is answered. A count rises in the answer alone that reports it.
abbrev pub LinkAnswer : FileState → FileState → LinkOptions → Result Report (Fault Cause) → Type 0
LinkAnswer old new opts result =
    AnswersByWriting old new (MayRefuse old.contents opts) (λ files. IsLink files opts) opts.out (λ (linked : Linked). linked.image) report_of result

-- what is asked for is not supported
abbrev pub IsUnsupported : Result Report (Fault Cause) → Type 0
IsUnsupported result = result ≡ Err (fault.Bad (cause.NotYet form.Flag))

-- Where the passes come to this, the link answers it, or is out of memory, unless a read or a write failed; a failed
-- write comes after each refusal.
abbrev pub MustAnswer : FileState → FileState → Result Linked Cause → Result Report (Fault Cause) → Type 0
MustAnswer old new (Ok linked) result =
    ¬ Rose old.reads new.reads → ¬ Rose old.writes new.writes
    → (result ≡ Ok (report_of linked)) ⊎ (result ≡ Err fault.OutOfMemory)
MustAnswer old new (Err refusal) result =
    ¬ Rose old.reads new.reads → (result ≡ Err (fault.Bad refusal)) ⊎ (result ≡ Err fault.OutOfMemory)

abbrev pub AnswersUnlessIoFails : FileState → FileState → LinkOptions → Result Report (Fault Cause) → Type 0
AnswersUnlessIoFails old new opts result =
    IfKnown old.contents (λ files. (answer : Result Linked Cause) → IsLink files opts answer → MustAnswer old new answer result)
