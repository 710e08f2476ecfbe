-- What `mkobj` answers.
use Rattle.std.specs.Prelude.{◌≡◌, ℕ, ◌^◌, List, Result, Ok, Err, Vec}
use Rattle.std.specs.declared.alloc.Global.{Global}
use Rattle.glk_base.specs.declared.fault.Fault.{Fault}
use Rattle.glk_io.specs.Counts.{Rose}
use Rattle.glk_io.specs.Contents.{Contents, IfKnown}
use Rattle.glk_io.specs.Changes.{FileState}
use Rattle.glk_cause.specs.declared.cause.Cause.{Cause}
use Rattle.glk_cause.specs.declared.cause.Cause.TheVariants as cause
use Rattle.glk_cause.specs.Sorts.{Sort, by_reads, by_writes, of_file, of_input}
use Rattle.glk_cause.specs.Chain.{Then, IsOne}
use Rattle.glk_cause.specs.Reading.{IsWhole, AnswersByReading}
use Rattle.glk_cause.specs.Writing.{AnswersByWriting}
use Rattle.glk_tools.specs.TextArchive.{archive_of_text}
use Rattle.glk_tools.specs.MustAnswer.{MustAnswer}
use Rattle.glk_tools.specs.declared.text_archive.MakeBad.{MakeBad}
use Rattle.glk_tools.specs.declared.text_archive.MakeBad.TheVariants as bad

-- how long a text may be
abbrev pub text_limit : ℕ
text_limit = 2 ^ 28

-- the refusal of the text at a path that makes no archive
abbrev pub refusal_of : List ℕ → MakeBad → Cause
refusal_of path (bad.Text broken) = cause.TextBad path broken.line broken.rule
refusal_of path (bad.Big big) = cause.TooBig path big.number

-- what the text at a path gives: the archive with its object, or its refusal
abbrev pub with_path : List ℕ → Result (List ℕ) MakeBad → Result (List ℕ) Cause
with_path path (Ok archive) = Ok archive
with_path path (Err broken) = Err (refusal_of path broken)

abbrev pub IsArchiveOf : List ℕ → List ℕ → Result (List ℕ) Cause → Type 0
IsArchiveOf path text answer = answer ≡ with_path path (archive_of_text text)

-- what the file at a path gives: it is read whole, and then its text is made an archive
abbrev pub GivesArchive : List ℕ → Contents → Result (List ℕ) Cause → Type 0
GivesArchive path = Then (IsWhole path text_limit text_limit) (IsArchiveOf path)

-- there is only one: the law that a function promises
abbrev pub IsOneArchive : Type 0
IsOneArchive = (path : List ℕ) → IsOne (GivesArchive path)

-- refusals of the text at a path
abbrev pub IsOfText : List ℕ → Sort → Type 0
IsOfText path (by_reads named count) = named ≡ path
IsOfText path (of_file named) = named ≡ path
IsOfText path (of_input named) = named ≡ path
IsOfText path sort = ⊥

-- what a call answers that reads the text and makes its archive
abbrev pub TextAnswer : FileState → FileState → List ℕ → Result (Vec ℕ Global) (Fault Cause) → Type 0
TextAnswer old new path result = AnswersByReading old new (IsOfText path) (GivesArchive path) (λ archive. archive.items) result

-- the refusals that there may be, and the paths that they name
abbrev pub MkobjAllows : List ℕ → List ℕ → Sort → Type 0
MkobjAllows path out (by_writes named count) = named ≡ out
MkobjAllows path out sort = IsOfText path sort

-- the answers of `mkobj`, for the text at a path and an output file
abbrev pub MkobjAnswer : FileState → FileState → List ℕ → List ℕ → Result (Unit {0}) (Fault Cause) → Type 0
MkobjAnswer old new path out result =
    AnswersByWriting old new (MkobjAllows path out) (GivesArchive path) out (λ (archive : List ℕ). archive) (λ (archive : List ℕ). tt) result

-- the answer that known files ask for comes, unless a read or a write fails
abbrev pub MkobjUnlessIoFails : {C : Type 0} → FileState → FileState → List ℕ → Result C (Fault Cause) → Type 0
MkobjUnlessIoFails old new path result = IfKnown old.contents (λ files.
    (given : Result (List ℕ) Cause) → GivesArchive path files given
    → MustAnswer (Rose old.reads new.reads) (Rose old.writes new.writes) given result)
