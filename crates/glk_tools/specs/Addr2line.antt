-- What `addr2line` answers.
use Rattle.std.specs.Prelude.{◌≡◌, ◌⊎◌, ℕ, Bool, List, Option, IfSome, Result, Ok, Err}
use Rattle.glk_base.specs.declared.fault.Fault.{Fault}
use Rattle.glk_base.specs.declared.fault.Fault.TheVariants as fault
use Rattle.glk_io.specs.Counts.{Rose}
use Rattle.glk_io.specs.Contents.{Contents, IfKnown}
use Rattle.glk_io.specs.Changes.{FileState, SourceState, SinkState, FilesUnchanged, SinkUnchanged}
use Rattle.glk_cause.specs.declared.cause.Cause.{Cause}
use Rattle.glk_cause.specs.declared.cause.Cause.TheVariants as cause
use Rattle.glk_cause.specs.Sorts.{Sort, by_reads, by_writes, of_file, of_input}
use Rattle.glk_cause.specs.Chain.{Then, IsOne}
use Rattle.glk_cause.specs.Reading.{IsWhole}
use Rattle.glk_cause.specs.Printing.{AnswersByPrinting}
use Rattle.glk_elf.specs.ReaderFile.{IsElf}
use Rattle.glk_frames_reader.specs.Opening.{BreaksTables}
use Rattle.glk_addr2line.specs.Answers.{IsAddressText}
use Rattle.glk_tools.specs.MustAnswer.{MustAnswer}
use Rattle.glk_tools.specs.Images.{image_limit, IsNoImage}
use Rattle.glk_tools.specs.Stdin.{stdin, IsWholeInput, InputFails, IsReadToEnd}
use Rattle.glk_tools.specs.Stdout.{stdout, Prints}

-- the refusal of the image at a path that has no functions: rule E12 or E13
pub record HasNoFunctions (path file : List ℕ) (refusal : Cause) : Type 0 where
  pub rule : ℕ
  pub offset : ℕ
  pub broken : BreaksTables file rule offset
  pub refusal_is : refusal ≡ cause.ElfBad path rule offset

-- what the bytes of the file at a path and those of standard input give: the answers of all lines, or the file's refusal
abbrev pub IsAnswersOf : Bool → List ℕ → List ℕ → List ℕ → Result (List ℕ) Cause → Type 0
IsAnswersOf inline path file input (Ok text) = IsElf file × IsAddressText inline file input text
IsAnswersOf inline path file input (Err refusal) = IsNoImage path file refusal ⊎ (IsElf file × HasNoFunctions path file refusal)

-- what the file at a path and standard input give: the file is read whole, then the input, and then its lines are answered
abbrev pub GivesAnswers : Bool → List ℕ → List ℕ → Contents → Result (List ℕ) Cause → Type 0
GivesAnswers inline path input =
    Then (IsWhole path image_limit image_limit) (λ file. Then IsWholeInput (IsAnswersOf inline path file) input)

-- there is only one: the law that a function promises
abbrev pub IsOneAnswering : Type 0
IsOneAnswering = (inline : Bool) (path input : List ℕ) → IsOne (GivesAnswers inline path input)

-- the same for what is left of standard input, where that is known
abbrev pub GivesToKnown : Option (List ℕ) → Bool → List ℕ → Contents → Result (List ℕ) Cause → Type 0
GivesToKnown left inline path files answer = IfSome left (λ input. GivesAnswers inline path input files answer)

-- the refusals that there may be, and the paths that they name
abbrev pub Addr2lineAllows : List ℕ → Sort → Type 0
Addr2lineAllows path (by_reads named count) = named ≡ path
Addr2lineAllows path (by_writes named count) = named ≡ stdout
Addr2lineAllows path (of_file named) = (named ≡ path) ⊎ (named ≡ stdin)
Addr2lineAllows path (of_input named) = named ≡ path
Addr2lineAllows path sort = ⊥

-- what a call answers that prints the answers of an image in a file, whose path this is
abbrev pub PrintsAddresses : {C : Type 0} → SinkState → SinkState → Bool → List ℕ → List ℕ → List ℕ → Result C (Fault Cause) → Type 0
PrintsAddresses before after inline path file input (Ok done) =
    (text : List ℕ) × IsAddressText inline file input text × Prints {C = Unit {0}} before after text (Ok tt)
PrintsAddresses before after inline path file input (Err fault.OutOfMemory) = SinkUnchanged before after
PrintsAddresses before after inline path file input (Err (fault.Bad refusal)) =
    ((text : List ℕ) × IsAddressText inline file input text × Prints {C = Unit {0}} before after text (Err (fault.Bad refusal)))
    ⊎ (HasNoFunctions path file refusal × SinkUnchanged before after)

-- what a call answers that prints the answers of the file at a path, or refuses it
abbrev pub AnswersAddresses : {C : Type 0} → SinkState → SinkState → Bool → List ℕ → List ℕ → List ℕ → Result C (Fault Cause) → Type 0
AnswersAddresses before after inline path file input (Ok done) =
    IsElf file × PrintsAddresses before after inline path file input (Ok done)
AnswersAddresses before after inline path file input (Err fault.OutOfMemory) = SinkUnchanged before after
AnswersAddresses {C} before after inline path file input (Err (fault.Bad refusal)) =
    (IsElf file × PrintsAddresses {C = C} before after inline path file input (Err (fault.Bad refusal)))
    ⊎ (IsNoImage path file refusal × SinkUnchanged before after)

-- no read of standard input failed: the lines are answered, or the answer is a refusal of known files and a known input
pub record AnswersLines {C : Type 0} (old new : FileState) (from to : SourceState) (before after : SinkState) (inline : Bool) (path : List ℕ) (result : Result C (Fault Cause)) : Type 0 where
  pub faults : to.faults ≡ from.faults
  pub prints : AnswersByPrinting old new before after (Addr2lineAllows path) (GivesToKnown from.left inline path) (λ text. text) result

-- a read of standard input failed, after the file was read whole: nothing is printed
pub record LeavesInput (old new : FileState) (from to : SourceState) (before after : SinkState) (path : List ℕ) (refusal : Cause) : Type 0 where
  pub fails : InputFails from to refusal
  pub files : FilesUnchanged old new
  pub silent : SinkUnchanged before after
  pub file : IfKnown old.contents (λ files. (file : List ℕ) × IsWhole path image_limit image_limit files (Ok file))

-- the answers of `addr2line`, for the file at a path; no file ever changes, and where all is done the input was read to its end
abbrev pub Addr2lineAnswer : {C : Type 0} → FileState → FileState → SourceState → SourceState → SinkState → SinkState → Bool → List ℕ → Result C (Fault Cause) → Type 0
Addr2lineAnswer {C} old new from to before after inline path (Ok done) =
    AnswersLines {C = C} old new from to before after inline path (Ok done) × IsReadToEnd from to
Addr2lineAnswer {C} old new from to before after inline path (Err fault.OutOfMemory) =
    AnswersLines {C = C} old new from to before after inline path (Err fault.OutOfMemory)
Addr2lineAnswer {C} old new from to before after inline path (Err (fault.Bad refusal)) =
    LeavesInput old new from to before after path refusal
    ⊎ AnswersLines {C = C} old new from to before after inline path (Err (fault.Bad refusal))

-- the answer that known files and a known input ask for comes, unless a read or a write fails
abbrev pub Addr2lineUnlessIoFails : {C : Type 0} → FileState → FileState → SourceState → SourceState → SinkState → SinkState → Bool → List ℕ → Result C (Fault Cause) → Type 0
Addr2lineUnlessIoFails old new from to before after inline path result = IfKnown old.contents (λ files. IfSome from.left (λ input.
    (given : Result (List ℕ) Cause) → GivesAnswers inline path input files given
    → MustAnswer (Rose old.reads new.reads ⊎ Rose from.faults to.faults) (Rose before.faults after.faults) given result))
