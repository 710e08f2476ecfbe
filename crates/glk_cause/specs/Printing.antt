-- What calls answer that read files, and then print to a sink.
use Rattle.std.specs.Prelude.{◌≡◌, ℕ, List, Result, Ok, Err}
use Rattle.std.specs.Io.KnownBytes.{Appends}
use Rattle.glk_base.specs.declared.fault.Fault.{Fault}
use Rattle.glk_base.specs.declared.fault.Fault.TheVariants as fault
use Rattle.glk_io.specs.Contents.{Contents, IfKnown}
use Rattle.glk_io.specs.Counts.{Rose}
use Rattle.glk_io.specs.Streams.{AppendsPrefix}
use Rattle.glk_io.specs.Changes.{FileState, SinkState, FilesUnchanged, SinkUnchanged}
use Rattle.glk_cause.specs.declared.cause.Cause.{Cause}
use Rattle.glk_cause.specs.Sorts.{Sort, by_writes, sort_of}
use Rattle.glk_cause.specs.Reading.{Refuses}

-- files as they are before, and a sink before and after
pub record Printing : Type 0 where
  pub files : FileState
  pub before : SinkState
  pub after : SinkState

-- what known files give is at the end of the sink
abbrev pub PrintsOutput : {B : Type 0} → Printing → (Contents → Result B Cause → Type 0) → (B → List ℕ) → Type 0
PrintsOutput {B} p S bytes =
    IfKnown p.files.contents (λ files. (b : B) × S files (Ok b) × Appends p.before.held p.after.held (bytes b))

-- a prefix of what known files give is at the end of the sink
abbrev pub OutputPartlyPrinted : {B : Type 0} → Printing → (Contents → Result B Cause → Type 0) → (B → List ℕ) → Type 0
OutputPartlyPrinted {B} p S bytes =
    IfKnown p.files.contents (λ files. (b : B) × S files (Ok b) × AppendsPrefix p.before.held p.after.held (bytes b))

-- a write to the sink failed: this is its count of faults since
pub record PrintFails (before after : SinkState) (count : ℕ) : Type 0 where
  pub count_is : count ≡ after.faults
  pub rose : Rose before.faults after.faults

-- what a refusal says: after a failed write to the sink a part of the output is in it, after any other nothing
abbrev pub RefusesToPrint : FileState → FileState → SinkState → SinkState → Type 0 → Type 0 → Sort → Type 0
RefusesToPrint old new before after Partly Holds (by_writes path count) = FilesUnchanged old new × PrintFails before after count × Partly
RefusesToPrint old new before after Partly Holds sort = SinkUnchanged before after × Refuses old new Holds sort

-- What a call answers that takes a step by reading files, and then prints the bytes of what the step gives to a sink. `Allows`
-- says which refusals there may be, and which paths they may name: a failed write to the sink names the path of the sink.
abbrev pub AnswersByPrinting : {B C : Type 0} → FileState → FileState → SinkState → SinkState → (Sort → Type 0) → (Contents → Result B Cause → Type 0) → (B → List ℕ) → Result C (Fault Cause) → Type 0
AnswersByPrinting old new before after Allows S bytes (Ok c) =
    FilesUnchanged old new × (after.faults ≡ before.faults)
    × PrintsOutput (record { files = old; before = before; after = after }) S bytes
AnswersByPrinting old new before after Allows S bytes (Err fault.OutOfMemory) = FilesUnchanged old new × SinkUnchanged before after
AnswersByPrinting old new before after Allows S bytes (Err (fault.Bad refusal)) =
    Allows (sort_of refusal)
    × RefusesToPrint old new before after (OutputPartlyPrinted (record { files = old; before = before; after = after }) S bytes)
    (IfKnown old.contents (λ files. S files (Err refusal))) (sort_of refusal)
