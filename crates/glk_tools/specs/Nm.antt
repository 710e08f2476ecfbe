-- What `nm` answers.
use Rattle.std.specs.Prelude.{◌≡◌, ◌⊎◌, ℕ, List, Result, Ok, Err}
use Rattle.glk_base.specs.declared.fault.Fault.{Fault}
use Rattle.glk_base.specs.declared.fault.Fault.TheVariants as fault
use Rattle.glk_io.specs.Counts.{Rose}
use Rattle.glk_io.specs.Contents.{Contents, IfKnown}
use Rattle.glk_io.specs.Changes.{FileState, SinkState, SinkUnchanged}
use Rattle.glk_cause.specs.declared.cause.Cause.{Cause}
use Rattle.glk_cause.specs.Sorts.{Sort, by_reads, by_writes, of_file, of_input}
use Rattle.glk_cause.specs.Chain.{Then, IsOne}
use Rattle.glk_cause.specs.Reading.{IsWhole}
use Rattle.glk_cause.specs.Printing.{AnswersByPrinting}
use Rattle.glk_elf.specs.ReaderFile.{IsElf}
use Rattle.glk_nm.specs.Listing.{IsNmText}
use Rattle.glk_nm.specs.declared.options.NmOptions.{NmOptions}
use Rattle.glk_tools.specs.MustAnswer.{MustAnswer}
use Rattle.glk_tools.specs.Images.{image_limit, IsNoImage}
use Rattle.glk_tools.specs.Stdout.{stdout, Prints}

-- what the bytes of the file at a path give: the lines of an image's symbols, or its refusal
abbrev pub IsSymbolsOf : NmOptions → List ℕ → List ℕ → Result (List ℕ) Cause → Type 0
IsSymbolsOf opts path file (Ok text) = IsElf file × IsNmText opts file text
IsSymbolsOf opts path file (Err refusal) = IsNoImage path file refusal

-- what the file at a path gives: it is read whole, and then the symbols of its image are listed
abbrev pub GivesSymbols : NmOptions → List ℕ → Contents → Result (List ℕ) Cause → Type 0
GivesSymbols opts path = Then (IsWhole path image_limit image_limit) (IsSymbolsOf opts path)

-- there is only one: the law that a function promises
abbrev pub IsOneListing : Type 0
IsOneListing = (opts : NmOptions) (path : List ℕ) → IsOne (GivesSymbols opts path)

-- the refusals that there may be, and the paths that they name
abbrev pub NmAllows : List ℕ → Sort → Type 0
NmAllows path (by_reads named count) = named ≡ path
NmAllows path (by_writes named count) = named ≡ stdout
NmAllows path (of_file named) = named ≡ path
NmAllows path (of_input named) = named ≡ path
NmAllows path sort = ⊥

-- what a call answers that prints the symbols of the image in a file
abbrev pub PrintsSymbols : {C : Type 0} → SinkState → SinkState → NmOptions → List ℕ → Result C (Fault Cause) → Type 0
PrintsSymbols before after opts file (Ok done) = (text : List ℕ) × IsNmText opts file text × Prints {C = Unit {0}} before after text (Ok tt)
PrintsSymbols before after opts file (Err fault.OutOfMemory) = SinkUnchanged before after
PrintsSymbols before after opts file (Err (fault.Bad refusal)) =
    (text : List ℕ) × IsNmText opts file text × Prints {C = Unit {0}} before after text (Err (fault.Bad refusal))

-- what a call answers that prints the symbols of the file at a path, or refuses it
abbrev pub ListsSymbols : {C : Type 0} → SinkState → SinkState → NmOptions → List ℕ → List ℕ → Result C (Fault Cause) → Type 0
ListsSymbols before after opts path file (Ok done) = IsElf file × PrintsSymbols before after opts file (Ok done)
ListsSymbols before after opts path file (Err fault.OutOfMemory) = SinkUnchanged before after
ListsSymbols {C} before after opts path file (Err (fault.Bad refusal)) =
    (IsElf file × PrintsSymbols {C = C} before after opts file (Err (fault.Bad refusal))) ⊎ (IsNoImage path file refusal × SinkUnchanged before after)

-- the answers of `nm`, for the file at a path; no file ever changes
abbrev pub NmAnswer : {C : Type 0} → FileState → FileState → SinkState → SinkState → NmOptions → List ℕ → Result C (Fault Cause) → Type 0
NmAnswer old new before after opts path result =
    AnswersByPrinting old new before after (NmAllows path) (GivesSymbols opts path) (λ text. text) result

-- the answer that known files ask for comes, unless a read or a write fails
abbrev pub NmUnlessIoFails : {C : Type 0} → FileState → FileState → SinkState → SinkState → NmOptions → List ℕ → Result C (Fault Cause) → Type 0
NmUnlessIoFails old new before after opts path result = IfKnown old.contents (λ files.
    (given : Result (List ℕ) Cause) → GivesSymbols opts path files given
    → MustAnswer (Rose old.reads new.reads) (Rose before.faults after.faults) given result)
