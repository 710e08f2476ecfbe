use Rattle.std.proofs.Common.{◌≡◌, ◌∙◌, ◌≤◌, false, length, ap, sym, arith}
use Rattle.glk_keys.specs.Programs.{Program}
use Rattle.glk_keys.specs.Relocations.{relocs_of}
use Rattle.glk_keys.specs.Rows.{row_at, is_definition}
use Rattle.glk_placing.specs.Programs.{PlacedProgram}
use Rattle.glk_fields.proofs.FieldSteps.{row_field_none}
use Rattle.glk_fields.proofs.PlaceLists.{no_relocs}
use Rattle.glk_fields.proofs.chunks.row_field.Goals as goal

pub returns-then-not-is_def : goal.returns-then-not-is_def
returns-then-not-is_def c =
    let s = c.args.values.now in
    let same : c.merged-merged.result.now.program ≡ c.args.values.now.program = c.merged-merged.ensures ∙ ap (λ (q : PlacedProgram). q.program) c.placement.ensures in
    let none : is_definition (row_at c.args.values.now.program c.args.id.0) ≡ false =
    ap (λ (p : Program). is_definition (row_at p c.args.id.0)) (sym same) ∙ (sym c.is_def.ensures ∙ c.if-not-is_def.true) in
    let long : length (relocs_of c.args.values.now.program c.args.id.0) ≡ 0 = ap length (no_relocs c.args.values.now.program c.args.id.0 none) in
    sym (row_field_none s c.args.j c.args.id.0 c.args.address (omega (arith, long)))
