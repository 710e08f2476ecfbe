use Rattle.std.proofs.Common.{◌≤◌, ℕ, List, get_or, inl, inr, refl, sym, ◌∙◌, pos, arith}
use Rattle.std.proofs.lemmas.Bool.{eqb-true}
use Rattle.glk_obj.specs.declared.kinds.RelocKind.TheVariants.{Addr}
use Rattle.glk_reloc.specs.declared.fields.Field.{Field}
use Rattle.glk_reloc.specs.Fields.{IsSized, end_of}
use Rattle.glk_reloc.proofs.Patchable.{patchable_more}
use Rattle.glk_reloc.proofs.tests.are_patchable.Goals as goal
use Rattle.glk_reloc.proofs.tests.are_patchable.Goals.{then-size-eq4, else-size-eq4}

abbrev no_field : Field
no_field = record { at = 0; size = 0; kind = Addr; value = pos 0 }

pub loop-field-preserved : goal.loop-field-preserved
loop-field-preserved c =
    let fields : List Field = c.args.fields.now in
    let i : ℕ = c.loop-field.field-index in
    let f : Field = get_or fields i no_field in
    let tested = c.if-not-is_sized.false in
    let sized : IsSized f = elim c.if-size-eq4.branch [
      | then-size-eq4 w ↦ inl w.if-size-eq4.true
      | else-size-eq4 w ↦ inr (eqb-true f.size 8 (sym w.is_sized-is ∙ tested))
    ] in
    let from : c.loop-field.end ≤ f.at = omega arith in
    let to : end_of f ≤ c.args.len = omega arith in
    patchable_more c.args.len fields i no_field c.loop-field.end _ c.loop-field-test.true c.loop-field.invariant sized from to refl
