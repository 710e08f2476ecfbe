use Rattle.std.proofs.Common.{◌≡◌, map, take}
use Rattle.glk_io.specs.Memory.{paths_of}
use Rattle.glk_io.proofs.memory.MemFiles.paths.Given as goal

abbrev pub invariant-loop-entry : goal.invariant-loop-entry
invariant-loop-entry l = map (λ path. path.now) l.paths.items ≡ paths_of (take l.entry-index l.entry-items)
