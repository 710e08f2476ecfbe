-- The files of the system, whose contents are not known.
use Rattle.std.specs.Prelude.{None}
use Rattle.glk_io.specs.Changes.{FileState}
use Rattle.glk_system.specs.declared.os_files.FaultCounts.{FaultCounts}

-- what is known of them: the counts of faults
abbrev pub unknown_files : FaultCounts → FileState
unknown_files faults = record { contents = None; reads = faults.reads; writes = faults.writes }
