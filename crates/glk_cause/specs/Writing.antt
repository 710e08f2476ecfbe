-- What calls answer that write a file.
use Rattle.std.specs.Prelude.{◌≡◌, ℕ, List, Result, Ok, Err}
use Rattle.glk_base.specs.declared.fault.Fault.{Fault}
use Rattle.glk_base.specs.declared.fault.Fault.TheVariants as fault
use Rattle.glk_io.specs.Contents.{Contents, IfKnown, Writes, PartlyWritten}
use Rattle.glk_io.specs.Counts.{Rose}
use Rattle.glk_io.specs.Changes.{FileState, FilesUnchanged, FileWritten, WriteFails}
use Rattle.glk_cause.specs.declared.cause.Cause.{Cause}
use Rattle.glk_cause.specs.declared.cause.Cause.TheVariants as cause
use Rattle.glk_cause.specs.Sorts.{Sort, by_writes, sort_of}
use Rattle.glk_cause.specs.Reading.{Refuses}

-- what a call answers that makes these bytes the file at a path
abbrev pub WritesWhole : {C : Type 0} → FileState → FileState → List ℕ → List ℕ → Result C (Fault Cause) → Type 0
WritesWhole old new path bytes (Ok c) = FileWritten old new path bytes
WritesWhole old new path bytes (Err fault.OutOfMemory) = FilesUnchanged old new
WritesWhole old new path bytes (Err (fault.Bad refusal)) =
    (refusal ≡ cause.WriteFault path new.writes) × WriteFails old new path bytes

-- no read and no write failed
pub record CountsUnchanged (old new : FileState) : Type 0 where
  pub reads : new.reads ≡ old.reads
  pub writes : new.writes ≡ old.writes

-- one write failed, and no read: this is the count of failed writes since
pub record WriteCounted (old new : FileState) (count : ℕ) : Type 0 where
  pub reads : new.reads ≡ old.reads
  pub count_is : count ≡ new.writes
  pub rose : Rose old.writes new.writes

-- the output file holds what known files give, and the answer reports it
abbrev pub WritesOutput : {B C : Type 0} → FileState → FileState → (Contents → Result B Cause → Type 0) → List ℕ → (B → List ℕ) → (B → C) → C → Type 0
WritesOutput {B} old new S out bytes report c =
    IfKnown old.contents (λ files. (b : B) × S files (Ok b) × Writes old.contents new.contents out (bytes b) × (c ≡ report b))

-- the files are as before, or the output file is a prefix of what known files give
abbrev pub OutputPartlyWritten : {B : Type 0} → FileState → FileState → (Contents → Result B Cause → Type 0) → List ℕ → (B → List ℕ) → Type 0
OutputPartlyWritten {B} old new S out bytes =
    IfKnown old.contents (λ files. (b : B) × S files (Ok b) × PartlyWritten old.contents new.contents out (bytes b))

-- what a refusal says of the files: a failed write may leave a part of the output, and after any other they are as before
abbrev pub RefusesToWrite : FileState → FileState → Type 0 → Type 0 → Sort → Type 0
RefusesToWrite old new Partly Holds (by_writes path count) = WriteCounted old new count × Partly
RefusesToWrite old new Partly Holds sort = Refuses old new Holds sort

-- What a call answers that takes a step by reading files, and then makes the bytes of what the step gives the file `out`.
-- `Allows` says which refusals there may be, and which paths they may name.
abbrev pub AnswersByWriting : {B C : Type 0} → FileState → FileState → (Sort → Type 0) → (Contents → Result B Cause → Type 0) → List ℕ → (B → List ℕ) → (B → C) → Result C (Fault Cause) → Type 0
AnswersByWriting old new Allows S out bytes report (Ok c) = CountsUnchanged old new × WritesOutput old new S out bytes report c
AnswersByWriting old new Allows S out bytes report (Err fault.OutOfMemory) = FilesUnchanged old new
AnswersByWriting old new Allows S out bytes report (Err (fault.Bad refusal)) =
    Allows (sort_of refusal)
    × RefusesToWrite old new (OutputPartlyWritten old new S out bytes) (IfKnown old.contents (λ files. S files (Err refusal))) (sort_of refusal)
