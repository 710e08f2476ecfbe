-- Files, sources and sinks in memory: what they hold, and which of their calls fail.
use Rattle.std.specs.Prelude.{◌≡◌, ◌⊎◌, ℕ, ◌-◌, ◌<◌, ◌==◌, ◌++◌, min, Bool, true, false, List, [], ◌∷◌, length, map, take, drop, Option, Some, None, is_some, Result, Ok, Err, if◌then◌else◌}
use Rattle.std.specs.List.{list_any}
use Rattle.glk_io.specs.Counts.{next_count}
use Rattle.glk_io.specs.Contents.{Contents, Replaces}
use Rattle.glk_io.specs.Changes.{FileState, SourceState, SinkState}
use Rattle.glk_io.specs.Files.{count_after_write}
use Rattle.glk_io.specs.declared.files.WriteError.{WriteError}
use Rattle.glk_io.specs.declared.files.WriteError.TheVariants as write
use Rattle.glk_io.specs.declared.memory.CallFail.{CallFail}

-- how many bytes a failing write leaves at this call, or nothing where the call is not listed;
-- of entries with one number the first counts
abbrev pub listed : List CallFail → ℕ → Option ℕ
listed [] call = None
listed (fail ∷ fails) call = if fail.call == call then Some fail.kept else listed fails call

-- whether a call is listed
abbrev pub is_listed : List ℕ → ℕ → Bool
is_listed fails call = list_any (λ fail. fail == call) fails

-- files in memory, the calls that fail, and how many calls and faults there were
pub record FilesInMemory : Type 0 where
  pub contents : Contents
  pub fails : List CallFail
  pub calls : ℕ
  pub read_faults : ℕ
  pub write_faults : ℕ

-- what is known of them: their contents, and the counts of faults
abbrev pub memory_files : FilesInMemory → FileState
memory_files m = record { contents = Some m.contents; reads = m.read_faults; writes = m.write_faults }

-- the paths of the files, in order
abbrev pub paths_of : Contents → List (List ℕ)
paths_of files = map (λ entry. entry.0) files

-- a count after a call of its kind: one more where the call is listed
abbrev pub count_after : FilesInMemory → ℕ → ℕ
count_after m count = if is_some (listed m.fails m.calls) then next_count count else count

-- the files after a read
abbrev pub after_read : FilesInMemory → FilesInMemory
after_read m = record m { calls = next_count m.calls; read_faults = count_after m m.read_faults }

-- the files after a write that left these contents
abbrev pub after_write : {T : Type 0} → FilesInMemory → Contents → Result T WriteError → FilesInMemory
after_write m contents result = record m {
  contents = contents;
  calls = next_count m.calls;
  write_faults = count_after_write m.write_faults result;
}

-- a write fails where it is listed, and leaves the first kept bytes, or all where there are fewer
abbrev pub WritesListed : {T : Type 0} → FilesInMemory → Contents → List ℕ → List ℕ → Result T WriteError → Type 0
WritesListed m now path bytes (Ok _) =
    (listed m.fails m.calls ≡ None) × Replaces m.contents now path bytes
WritesListed m now path bytes (Err write.Failed) =
    (kept : ℕ) × (listed m.fails m.calls ≡ Some kept) × Replaces m.contents now path (take kept bytes)
WritesListed m now path bytes (Err write.OutOfMemory) = now ≡ m.contents

-- a source in memory
pub record SourceInMemory : Type 0 where
  pub left : List ℕ
  pub fails : List ℕ
  pub calls : ℕ
  pub faults : ℕ

-- what is known of it
abbrev pub memory_source : SourceInMemory → SourceState
memory_source s = record { left = Some s.left; faults = s.faults }

-- a read fails exactly where it is listed, and else takes as much as there is and fits
abbrev pub ReadsListed : {E : Type 0} → SourceInMemory → SourceInMemory → ℕ → Result ℕ E → Type 0
ReadsListed before now room (Ok taken) =
    (is_listed before.fails before.calls ≡ false)
    × (taken ≡ min room (length before.left))
    × (now ≡ record before { left = drop taken before.left; calls = next_count before.calls })
ReadsListed before now room (Err _) =
    (is_listed before.fails before.calls ≡ true)
    × (now ≡ record before { calls = next_count before.calls; faults = next_count before.faults })

-- a sink in memory, which has room for that many bytes in all
pub record SinkInMemory : Type 0 where
  pub held : List ℕ
  pub room : ℕ
  pub fails : List ℕ
  pub calls : ℕ
  pub faults : ℕ

-- what is known of it
abbrev pub memory_sink : SinkInMemory → SinkState
memory_sink s = record { held = Some s.held; faults = s.faults }

-- a write fails exactly where it is listed, or where no room is left for a piece that is not empty,
-- and else takes what fits
abbrev pub TakesListed : {E : Type 0} → SinkInMemory → SinkInMemory → List ℕ → Result ℕ E → Type 0
TakesListed before now piece (Ok taken) =
    (is_listed before.fails before.calls ≡ false)
    × (taken ≡ min (length piece) (before.room - length before.held))
    × (now ≡ record before { held = before.held ++ take taken piece; calls = next_count before.calls })
TakesListed before now piece (Err _) =
    ((is_listed before.fails before.calls ≡ true)
    ⊎ ((before.room ≡ length before.held) × (0 < length piece)))
    × (now ≡ record before { calls = next_count before.calls; faults = next_count before.faults })
