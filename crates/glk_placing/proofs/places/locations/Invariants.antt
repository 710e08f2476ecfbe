use Rattle.glk_placing.specs.Indices.{AreLocationsTo}
use Rattle.glk_placing.specs.Programs.{placed_program}
use Rattle.glk_placing.proofs.places.locations.Given as goal

abbrev pub invariant-loop-i : goal.invariant-loop-i
invariant-loop-i l =
    AreLocationsTo (placed_program l.merged.program l.kept l.made l.contents.tables) l.i l.locations.sections.items l.locations.addresses.items
