use Rattle.std.proofs.Common.{◌≡◌, ◌++◌, drop, map}
use Rattle.glk_arena.specs.Imports.{imports_of}
use Rattle.glk_arena.specs.Waves.{first_uses}
use Rattle.glk_arena.proofs.imports.queue_imports.Given as goal

abbrev pub invariant-loop-k : goal.invariant-loop-k
invariant-loop-k l =
    l.initial.names ++ first_uses l.initial.names (drop l.from (map (λ i. i.imported) (imports_of l.list)))
    ≡ l.names ++ first_uses l.names (drop l.k (map (λ i. i.imported) (imports_of l.list)))
