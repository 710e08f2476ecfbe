use Rattle.std.proofs.Common.{◌≡◌, drop}
use Rattle.std.specs.List.{find}
use Rattle.glk_arena.specs.Imports.{imports_of}
use Rattle.glk_arena.specs.Waves.{is_missing}
use Rattle.glk_arena.specs.ConfigViews.{file_in}
use Rattle.glk_arena.proofs.imports.first_missing.Given as goal

abbrev pub invariant-loop-k : goal.invariant-loop-k
invariant-loop-k l =
    find (is_missing (file_in l.config) l.names) (drop l.k (imports_of l.list))
    ≡ find (is_missing (file_in l.config) l.names) (drop l.from (imports_of l.list))
