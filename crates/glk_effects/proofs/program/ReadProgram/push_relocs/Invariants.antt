use Rattle.std.proofs.Common.{map, take}
use Rattle.glk_effects.specs.Views.{Appends}
use Rattle.glk_keys.specs.Relocations.{relocs_of}
use Rattle.glk_keys.specs.Rows.{row_count}
use Rattle.glk_reach.specs.Effects.{reloc_read, found_effects}
use Rattle.glk_effects.proofs.program.ReadProgram.push_relocs.Given as goal

abbrev pub invariant-loop-i : goal.invariant-loop-i
invariant-loop-i l =
    Appends (row_count l.self.merged.now.program) l.fn.out.items l.out.items
    (found_effects (map (reloc_read l.self.merged.now.program l.key l.id.0) (take l.i (relocs_of l.self.merged.now.program l.id.0))))
