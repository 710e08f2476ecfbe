use Rattle.std.proofs.Common.{take}
use Rattle.glk_effects.specs.Views.{Appends}
use Rattle.glk_keys.specs.Rows.{row_count}
use Rattle.glk_reach.specs.Effects.{method_effects_from}
use Rattle.glk_effects.proofs.program.ReadProgram.push_triples.Given as goal

abbrev pub invariant-loop-j : goal.invariant-loop-j
invariant-loop-j l =
    Appends (row_count l.self.merged.now.program) l.fn.out.items l.out.items
    (method_effects_from l.self.merged.now.program l.key 0 (take l.j l.triples))
