use Rattle.glk_keys.specs.Relocations.{relocs_of}
use Rattle.glk_reach.proofs.Targets.{nth_within}
use Rattle.glk_reach.proofs.relocations.RowRelocations.nth.Goals as goal

pub returns-clause-within : goal.returns-clause-within
returns-clause-within c =
    let s = c.args.self.now in
    let p = s.merged.now.program in
    nth_within p s.id.0 s.definition (relocs_of p s.id.0) c.args.i c.reloc.result c.reloc.ensures
