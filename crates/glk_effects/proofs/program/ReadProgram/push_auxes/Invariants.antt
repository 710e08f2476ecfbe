use Rattle.std.proofs.Common.{map, take}
use Rattle.glk_effects.specs.Views.{Appends}
use Rattle.glk_keys.specs.Relocations.{auxes_of}
use Rattle.glk_keys.specs.Rows.{row_count}
use Rattle.glk_reach.specs.Effects.{aux_read, found_effects}
use Rattle.glk_effects.proofs.program.ReadProgram.push_auxes.Given as goal

abbrev pub invariant-loop-i : goal.invariant-loop-i
invariant-loop-i l =
    Appends (row_count l.self.merged.now.program) l.fn.out.items l.out.items
    (found_effects (map (aux_read l.self.merged.now.program l.key l.id.0) (take l.i (auxes_of l.self.merged.now.program l.id.0))))
