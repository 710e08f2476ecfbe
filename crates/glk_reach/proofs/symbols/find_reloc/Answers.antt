use Rattle.std.proofs.Common.{◌≡◌, List, [], Option, None, refl, sym, ap, ◌∙◌, subst}
use Rattle.std.specs.Prelude.{IfSome}
use Rattle.glk_keys.specs.Programs.{Program}
use Rattle.glk_keys.specs.Rows.{row_count}
use Rattle.glk_readings.specs.Offsets.{IsIndexOf}
use Rattle.glk_readings.specs.References.{reference_at}
use Rattle.glk_readings.specs.Symbols.{IsWithin}
use Rattle.glk_readings.specs.declared.symbols.Relocation.{Relocation}
use Rattle.glk_reach.proofs.Targets.{none_at}
use Rattle.glk_reach.proofs.symbols.find_reloc.Goals as goal

pub find-requires : goal.find-requires
find-requires c =
    let P : List Relocation → Type 0 = λ relocs. IsIndexOf relocs c.args.index.now in
    subst P (sym c.in-Some.ensures.list) c.requires.index

pub returns-in-Some-clause-value : goal.returns-in-Some-clause-value
returns-in-Some-clause-value c = c.find.ensures.value ∙ ap (λ (relocs : List Relocation). reference_at relocs c.args.offset) c.in-Some.ensures.list

pub returns-in-Some-clause-within : goal.returns-in-Some-clause-within
returns-in-Some-clause-within c =
    let P : Program → Type 0 = λ p. IfSome c.find.result (λ (reloc : Relocation). IsWithin (row_count p) reloc.target) in
    subst P c.in-Some.ensures.program c.find.ensures.within

pub returns-in-None-clause-value : goal.returns-in-None-clause-value
returns-in-None-clause-value c = sym (ap (λ (relocs : List Relocation). reference_at relocs c.args.offset) c.in-None.ensures.list ∙ none_at c.args.offset)
