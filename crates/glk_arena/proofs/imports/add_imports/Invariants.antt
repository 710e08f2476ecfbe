use Rattle.std.proofs.Common.{take}
use Rattle.glk_arena.specs.ImportRefs.{AreImportsOf}
use Rattle.glk_arena.proofs.imports.add_imports.Given as goal

abbrev pub invariant-loop-p : goal.invariant-loop-p
invariant-loop-p l = AreImportsOf l.list (take l.p l.list) l.refs.items
