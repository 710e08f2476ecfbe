-- What `dump` answers.
use Rattle.std.specs.Prelude.{◌≡◌, ℕ, ◌^◌, List, Result, Ok, Err, Vec}
use Rattle.std.specs.declared.alloc.Global.{Global}
use Rattle.glk_base.specs.declared.fault.Fault.{Fault}
use Rattle.glk_io.specs.Counts.{Rose}
use Rattle.glk_io.specs.Contents.{Contents, IfKnown}
use Rattle.glk_io.specs.Changes.{FileState, SinkState}
use Rattle.glk_cause.specs.declared.cause.Cause.{Cause}
use Rattle.glk_cause.specs.Sorts.{Sort, by_reads, by_writes, of_file, of_package}
use Rattle.glk_cause.specs.Chain.{Then, IsOne}
use Rattle.glk_cause.specs.Reading.{IsWhole, AnswersByReading}
use Rattle.glk_cause.specs.Printing.{AnswersByPrinting}
use Rattle.glk_package.specs.declared.refusal.PackageBad.{PackageBad}
use Rattle.glk_package.specs.PackageRefusal.{refusal_of}
use Rattle.glk_tools.specs.PackageText.{IsPackageText}
use Rattle.glk_tools.specs.MustAnswer.{MustAnswer}
use Rattle.glk_tools.specs.Stdout.{stdout}

-- how long a package file may be
abbrev pub package_limit : ℕ
package_limit = 2 ^ 28

-- what the bytes of the package file at a path give: the text of its objects, or its refusal
abbrev pub IsTextOf : List ℕ → List ℕ → Result (List ℕ) Cause → Type 0
IsTextOf path file (Ok text) = IsPackageText file (Ok text)
IsTextOf path file (Err refusal) = (broken : PackageBad) × IsPackageText file (Err broken) × (refusal ≡ refusal_of path broken)

-- what the file at a path gives: it is read whole, and then its objects are made a text
abbrev pub GivesText : List ℕ → Contents → Result (List ℕ) Cause → Type 0
GivesText path = Then (IsWhole path package_limit package_limit) (IsTextOf path)

-- there is only one: the law that a function promises
abbrev pub IsOneDump : Type 0
IsOneDump = (path : List ℕ) → IsOne (GivesText path)

-- refusals of the package file at a path
abbrev pub IsOfPackageFile : List ℕ → Sort → Type 0
IsOfPackageFile path (by_reads named count) = named ≡ path
IsOfPackageFile path (of_file named) = named ≡ path
IsOfPackageFile path (of_package named) = named ≡ path
IsOfPackageFile path sort = ⊥

-- what a call answers that reads the file and makes its text
abbrev pub PackageAnswer : FileState → FileState → List ℕ → Result (Vec ℕ Global) (Fault Cause) → Type 0
PackageAnswer old new path result = AnswersByReading old new (IsOfPackageFile path) (GivesText path) (λ text. text.items) result

-- the refusals that there may be, and the paths that they name
abbrev pub DumpAllows : List ℕ → Sort → Type 0
DumpAllows path (by_writes named count) = named ≡ stdout
DumpAllows path sort = IsOfPackageFile path sort

-- the answers of `dump`, for the file at a path; no file ever changes
abbrev pub DumpAnswer : {C : Type 0} → FileState → FileState → SinkState → SinkState → List ℕ → Result C (Fault Cause) → Type 0
DumpAnswer old new before after path result =
    AnswersByPrinting old new before after (DumpAllows path) (GivesText path) (λ text. text) result

-- the answer that known files ask for comes, unless a read or a write fails
abbrev pub DumpUnlessIoFails : {C : Type 0} → FileState → FileState → SinkState → SinkState → List ℕ → Result C (Fault Cause) → Type 0
DumpUnlessIoFails old new before after path result = IfKnown old.contents (λ files.
    (given : Result (List ℕ) Cause) → GivesText path files given
    → MustAnswer (Rose old.reads new.reads) (Rose before.faults after.faults) given result)
