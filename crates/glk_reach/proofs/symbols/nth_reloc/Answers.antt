use Rattle.std.proofs.Common.{◌≡◌, List, length, Option, Some, sym, ap, ◌∙◌, subst, ◌<◌}
use Rattle.std.specs.Prelude.{slice_get}
use Rattle.glk_keys.specs.Programs.{Program}
use Rattle.glk_keys.specs.Rows.{row_count}
use Rattle.glk_readings.specs.Symbols.{IsWithin}
use Rattle.glk_readings.specs.declared.symbols.Relocation.{Relocation}
use Rattle.glk_reach.proofs.symbols.nth_reloc.Goals as goal

pub nth-requires : goal.nth-requires
nth-requires c =
    let P : List Relocation → Type 0 = λ relocs. c.args.i < length relocs in
    subst P (sym c.in-Some.ensures.list) c.requires.index

pub returns-clause-value : goal.returns-clause-value
returns-clause-value c =
    let P : List Relocation → Type 0 = λ relocs. slice_get relocs c.args.i ≡ Some c.nth.result in
    subst P c.in-Some.ensures.list c.nth.ensures.value

pub returns-clause-within : goal.returns-clause-within
returns-clause-within c =
    let P : Program → Type 0 = λ p. IsWithin (row_count p) c.nth.result.target in
    subst P c.in-Some.ensures.program c.nth.ensures.within
