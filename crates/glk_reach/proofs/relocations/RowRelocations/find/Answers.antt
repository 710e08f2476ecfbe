use Rattle.std.proofs.Common.{Option, sym, subst}
use Rattle.std.specs.Prelude.{IfSome}
use Rattle.glk_keys.specs.Relocations.{relocs_of}
use Rattle.glk_keys.specs.Rows.{row_count}
use Rattle.glk_readings.specs.Symbols.{IsWithin}
use Rattle.glk_readings.specs.declared.symbols.Relocation.{Relocation}
use Rattle.glk_reach.proofs.Targets.{found_within}
use Rattle.glk_reach.proofs.relocations.RowRelocations.find.Goals as goal

pub returns-clause-within : goal.returns-clause-within
returns-clause-within c =
    let s = c.args.self.now in
    let p = s.merged.now.program in
    let P : Option Relocation → Type 0 = λ o. IfSome o (λ (reloc : Relocation). IsWithin (row_count p) reloc.target) in
    subst P (sym c.find.ensures) (found_within p s.id.0 s.definition (relocs_of p s.id.0) c.args.offset)
