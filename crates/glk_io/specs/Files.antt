-- What reads and writes of files answer.
use Rattle.std.specs.Prelude.{◌≡◌, ℕ, ◌+◌, ◌-◌, ◌^◌, ◌≤◌, ◌<◌, min, List, length, Option, Some, None, Result, Ok, Err, ⊤, Vec}
use Rattle.std.specs.declared.alloc.Global.{Global}
use Rattle.glk_io.specs.Counts.{next_count}
use Rattle.glk_io.specs.Contents.{Contents, file_in, IfKnown}
use Rattle.glk_io.specs.Changes.{FileState, FilesUnchanged, ReadFails, FileWritten, WriteFails}
use Rattle.glk_io.specs.declared.files.ReadError.{ReadError}
use Rattle.glk_io.specs.declared.files.WriteError.{WriteError}
use Rattle.glk_io.specs.declared.files.ReadError.TheVariants as read
use Rattle.glk_io.specs.declared.files.WriteError.TheVariants as write

-- a read of at most max bytes answers what the contents say; a failure and out of memory say nothing of them
abbrev pub ReadAgrees : Contents → List ℕ → ℕ → Result (Vec ℕ Global) ReadError → Type 0
ReadAgrees files path max (Ok bytes) = (file_in files path ≡ Some bytes.items) × (length bytes.items ≤ max)
ReadAgrees files path max (Err read.Failed) = ⊤
ReadAgrees files path max (Err read.Absent) = file_in files path ≡ None
ReadAgrees files path max (Err read.TooLong) =
    (bytes : List ℕ) × (file_in files path ≡ Some bytes) × (max < length bytes)
ReadAgrees files path max (Err read.OutOfMemory) = ⊤

-- What a read of a file answers: after a failure the count of reads rose, after every other answer all is as before.
abbrev pub ReadsFile : FileState → FileState → List ℕ → ℕ → Result (Vec ℕ Global) ReadError → Type 0
ReadsFile old new path max (Err read.Failed) = ReadFails old new
ReadsFile old new path max result =
    FilesUnchanged old new × IfKnown old.contents (λ files. ReadAgrees files path max result)

-- What a write of a file answers: the count of writes rose after a failure alone.
abbrev pub WritesFile : {T : Type 0} → FileState → FileState → List ℕ → List ℕ → Result T WriteError → Type 0
WritesFile old new path bytes (Ok _) = FileWritten old new path bytes
WritesFile old new path bytes (Err write.Failed) = WriteFails old new path bytes
WritesFile old new path bytes (Err write.OutOfMemory) = FilesUnchanged old new

-- what a read of at most max bytes says of a reader that knows what it has left;
-- past the end of its type there is no length
abbrev pub ReadsUpTo : Option (List ℕ) → ℕ → Result (Vec ℕ Global) ReadError → Type 0
ReadsUpTo None max result = ⊤
ReadsUpTo (Some left) max (Ok bytes) = bytes.items ≡ left
ReadsUpTo (Some left) max (Err read.TooLong) = min (max + 1) (2 ^ 64 - 1) ≤ length left
ReadsUpTo (Some left) max (Err read.Failed) = ⊤
ReadsUpTo (Some left) max (Err read.Absent) = ⊥
ReadsUpTo (Some left) max (Err read.OutOfMemory) = ⊤

-- a count of reads after a read: one more exactly where the read failed
abbrev pub count_after_read : ℕ → Result (Vec ℕ Global) ReadError → ℕ
count_after_read count (Ok bytes) = count
count_after_read count (Err read.Failed) = next_count count
count_after_read count (Err read.Absent) = count
count_after_read count (Err read.TooLong) = count
count_after_read count (Err read.OutOfMemory) = count

-- a count of writes after a write: one more exactly where the write failed
abbrev pub count_after_write : {T : Type 0} → ℕ → Result T WriteError → ℕ
count_after_write count (Ok _) = count
count_after_write count (Err write.Failed) = next_count count
count_after_write count (Err write.OutOfMemory) = count
