use Rattle.std.proofs.Common.{◌≡◌, ◌++◌, map}
use Rattle.std.specs.List.{range_with_len}
use Rattle.glk_arena.specs.ImportRefs.{ref_at}
use Rattle.glk_arena.proofs.imports.add_object.Given as goal

abbrev pub invariant-loop-entry : goal.invariant-loop-entry
invariant-loop-entry l = l.refs.items ≡ l.initial.refs.items ++ map (ref_at l.owner l.object) (range_with_len 0 l.entry)
