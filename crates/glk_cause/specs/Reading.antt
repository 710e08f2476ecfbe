-- What calls answer that read files.
use Rattle.std.specs.Prelude.{◌≡◌, ℕ, nat_le, List, length, Option, Some, None, Result, Ok, Err, if◌then◌else◌}
use Rattle.glk_base.specs.declared.fault.Fault.{Fault}
use Rattle.glk_base.specs.declared.fault.Fault.TheVariants as fault
use Rattle.glk_io.specs.Contents.{Contents, file_in, IfKnown}
use Rattle.glk_io.specs.Changes.{FileState, FilesUnchanged, ReadFails}
use Rattle.glk_cause.specs.declared.cause.Cause.{Cause}
use Rattle.glk_cause.specs.declared.cause.Cause.TheVariants as cause
use Rattle.glk_cause.specs.Sorts.{Sort, by_reads, of_file, sort_of}

-- a refusal after which files are as before holds of them; a failed read says nothing of them
abbrev pub Refuses : FileState → FileState → Type 0 → Sort → Type 0
Refuses old new Holds (by_reads path count) = ReadFails old new × (count ≡ new.reads)
Refuses old new Holds sort = FilesUnchanged old new × Holds

-- What a call answers that takes a step by reading files: known files give that answer. `Allows` says which refusals there
-- may be, and which paths they may name, whatever is known.
abbrev pub AnswersByReading : {B C : Type 0} → FileState → FileState → (Sort → Type 0) → (Contents → Result B Cause → Type 0) → (C → B) → Result C (Fault Cause) → Type 0
AnswersByReading old new Allows S view (Ok c) = FilesUnchanged old new × IfKnown old.contents (λ files. S files (Ok (view c)))
AnswersByReading old new Allows S view (Err fault.OutOfMemory) = FilesUnchanged old new
AnswersByReading old new Allows S view (Err (fault.Bad refusal)) =
    Allows (sort_of refusal) × Refuses old new (IfKnown old.contents (λ files. S files (Err refusal))) (sort_of refusal)

-- refusals of one file
abbrev pub IsOfPath : List ℕ → Sort → Type 0
IsOfPath path (by_reads named count) = named ≡ path
IsOfPath path (of_file named) = named ≡ path
IsOfPath path sort = ⊥

-- A whole file of at most `most` bytes; of a longer one the refusal names the limit.
abbrev pub bytes_or : List ℕ → ℕ → ℕ → Option (List ℕ) → Result (List ℕ) Cause
bytes_or path most limit None = Err (cause.Absent path)
bytes_or path most limit (Some bytes) = if nat_le (length bytes) most then Ok bytes else Err (cause.FileTooLong path limit)

abbrev pub IsWhole : List ℕ → ℕ → ℕ → Contents → Result (List ℕ) Cause → Type 0
IsWhole path most limit files answer = answer ≡ bytes_or path most limit (file_in files path)

-- what a call answers that reads the file at a path
abbrev pub ReadsWhole : FileState → FileState → List ℕ → ℕ → ℕ → Result (List ℕ) (Fault Cause) → Type 0
ReadsWhole old new path most limit result =
    AnswersByReading old new (IsOfPath path) (IsWhole path most limit) (λ text. text) result
