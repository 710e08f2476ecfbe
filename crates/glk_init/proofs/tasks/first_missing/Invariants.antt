use Rattle.std.proofs.Common.{◌≡◌, drop}
use Rattle.std.specs.List.{find}
use Rattle.glk_init.specs.Tasks.{is_undefined}
use Rattle.glk_init.proofs.tasks.first_missing.Given as goal

abbrev pub invariant-loop-edge : goal.invariant-loop-edge
invariant-loop-edge g l =
    find (is_undefined (g.P.InitProgram.graph l.program)) (drop l.edge-index l.edges)
    ≡ find (is_undefined (g.P.InitProgram.graph l.program)) l.edges
