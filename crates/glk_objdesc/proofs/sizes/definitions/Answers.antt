use Rattle.std.proofs.Common.{arith, ◌∙◌, ap, length, List}
use Rattle.glk_objdesc.specs.Canonical.{clamped}
use Rattle.glk_objdesc.specs.declared.desc.DefDesc.{DefDesc}
use Rattle.glk_objdesc.proofs.Clamped.{clamped_four, clamped_small, length_four}
use Rattle.glk_objdesc.proofs.sizes.definitions.Goals as goal

pub returns : goal.returns
returns c =
    let d = c.args.d.now in
    let f = λ (xs : List DefDesc). clamped (length xs) in
    rw (length_four d.defs d.hash64 d.hashed d.ndefs, c.saturating_add-3.ensures, c.saturating_add-2.ensures, c.saturating_add.ensures)
    (clamped_four (length c.as_slice.result.now) (length c.as_slice-2.result.now) (length c.as_slice-3.result.now) (length c.as_slice-4.result.now)
    (length d.defs) (length d.hash64) (length d.hashed) (length d.ndefs)
    (clamped_small (length c.as_slice.result.now) (omega (arith, c.as_slice.type_inv.0)) ∙ ap f c.as_slice.ensures)
    (clamped_small (length c.as_slice-2.result.now) (omega (arith, c.as_slice-2.type_inv.0)) ∙ ap f c.as_slice-2.ensures)
    (clamped_small (length c.as_slice-3.result.now) (omega (arith, c.as_slice-3.type_inv.0)) ∙ ap f c.as_slice-3.ensures)
    (clamped_small (length c.as_slice-4.result.now) (omega (arith, c.as_slice-4.type_inv.0)) ∙ ap f c.as_slice-4.ensures))
