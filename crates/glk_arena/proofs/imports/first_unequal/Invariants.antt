use Rattle.std.proofs.Common.{◌≡◌, ◌&&◌, drop, take}
use Rattle.std.specs.List.{find}
use Rattle.glk_arena.specs.Imports.{imports_of, is_compared, is_unequal}
use Rattle.glk_arena.proofs.imports.first_unequal.Given as goal

abbrev pub invariant-loop-k : goal.invariant-loop-k
invariant-loop-k l =
    find (λ i. is_compared (take l.earlier l.names) l.names i && is_unequal l.list i) (drop l.k (imports_of l.list))
    ≡ find (λ i. is_compared (take l.earlier l.names) l.names i && is_unequal l.list i) (drop l.from (imports_of l.list))
