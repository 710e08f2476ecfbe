use Rattle.std.proofs.Common.{◌≡◌, ◌∙◌, ap, subst, get_or}
use Rattle.glk_keys.specs.Programs.{Program}
use Rattle.glk_keys.specs.Relocations.{relocs_of, no_reloc}
use Rattle.glk_keys.specs.Rows.{row_at}
use Rattle.glk_obj.specs.Positive.{HasFieldWithin}
use Rattle.glk_obj.specs.Views.{reloc_view}
use Rattle.glk_placing.specs.Programs.{PlacedProgram}
use Rattle.glk_fields.proofs.FieldSteps.{ends_inside}
use Rattle.glk_fields.proofs.places.place_at.Goals as goal

pub returns-clause-inside : goal.returns-clause-inside
returns-clause-inside c =
    let s = c.args.values.now in
    let same : c.merged.result.now.program ≡ c.args.values.now.program = c.merged.ensures ∙ ap (λ (q : PlacedProgram). q.program) c.placement.ensures in
    let W : Program → Type 0 = λ p. HasFieldWithin (row_at p c.args.id.0).symbol (reloc_view c.reloc.result) in
    ends_inside s c.args.i c.args.j c.args.id.0 c.field_start.result (reloc_view c.reloc.result) c.requires.chosen
    (c.reloc.ensures.value ∙ ap (λ (p : Program). get_or (relocs_of p c.args.id.0) c.args.j no_reloc) same)
    c.field_start.ensures (subst W same c.reloc.ensures.within)
