-- The files, a source or a sink before and after a call.
use Rattle.std.specs.Prelude.{◌≡◌, ℕ, ◌≤◌, List, Option, Result, Ok, Err}
use Rattle.std.specs.Io.KnownBytes.{Appends}
use Rattle.glk_io.specs.Counts.{Rose}
use Rattle.glk_io.specs.Contents.{Contents, Writes, PartlyWritten}
use Rattle.glk_io.specs.Streams.{AppendsPrefix}

-- files: their contents where they are known, and how many reads and writes failed
pub record FileState : Type 0 where
  pub contents : Option Contents
  pub reads : ℕ
  pub writes : ℕ

-- nothing was written, and no read and no write failed
abbrev pub FilesUnchanged : FileState → FileState → Type 0
FilesUnchanged old new = new ≡ old

-- a read failed, and only the count of these is another
pub record ReadFails (old new : FileState) : Type 0 where
  pub only_reads : new ≡ record old { reads = new.reads }
  pub later : old.reads ≤ new.reads
  pub rose : Rose old.reads new.reads

-- the file at the path is these bytes, every other file is as before, and no read and no write failed
pub record FileWritten (old new : FileState) (path bytes : List ℕ) : Type 0 where
  pub contents : Writes old.contents new.contents path bytes
  pub reads : new.reads ≡ old.reads
  pub writes : new.writes ≡ old.writes

-- a write of these bytes failed, and no read did: the files are as before, or the one at the path is a prefix of them
pub record WriteFails (old new : FileState) (path bytes : List ℕ) : Type 0 where
  pub contents : PartlyWritten old.contents new.contents path bytes
  pub reads : new.reads ≡ old.reads
  pub later : old.writes ≤ new.writes
  pub rose : Rose old.writes new.writes

-- a source: the bytes that are left, where they are known, and how many reads failed
pub record SourceState : Type 0 where
  pub left : Option (List ℕ)
  pub faults : ℕ

-- a sink: the bytes that it holds, where they are known, and how many writes failed
pub record SinkState : Type 0 where
  pub held : Option (List ℕ)
  pub faults : ℕ

-- nothing was written, and no write failed
abbrev pub SinkUnchanged : SinkState → SinkState → Type 0
SinkUnchanged old new = new ≡ old

-- these bytes were written whole, and no write failed
pub record SinkAppends (old new : SinkState) (bytes : List ℕ) : Type 0 where
  pub bytes_are : Appends old.held new.held bytes
  pub faults : new.faults ≡ old.faults

-- a prefix of these bytes was written, and a write failed
pub record SinkFails (old new : SinkState) (bytes : List ℕ) : Type 0 where
  pub prefix : AppendsPrefix old.held new.held bytes
  pub later : old.faults ≤ new.faults
  pub rose : Rose old.faults new.faults

-- a text was written whole, or a prefix of it where a write failed
abbrev pub WritesText : {T E : Type 0} → SinkState → SinkState → List ℕ → Result T E → Type 0
WritesText old new text (Ok done) = SinkAppends old new text
WritesText old new text (Err failed) = SinkFails old new text
