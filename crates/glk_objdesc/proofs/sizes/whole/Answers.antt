use Rattle.std.proofs.Common.{◌∙◌, ap, List}
use Rattle.glk_objdesc.specs.Canonical.{clamped}
use Rattle.glk_objdesc.specs.Sizes.{total_of}
use Rattle.glk_objdesc.specs.declared.desc.DefDesc.{DefDesc}
use Rattle.glk_objdesc.proofs.Clamped.{clamped_four, total_four}
use Rattle.glk_objdesc.proofs.sizes.whole.Goals as goal

pub returns : goal.returns
returns c =
    let d = c.args.d.now in
    let part = c.args.part in
    let f = λ (xs : List DefDesc). clamped (total_of part xs) in
    rw (total_four part d.defs d.hash64 d.hashed d.ndefs, c.saturating_add-3.ensures, c.saturating_add-2.ensures, c.saturating_add.ensures)
    (clamped_four c.total.result c.total-2.result c.total-3.result c.total-4.result
    (total_of part d.defs) (total_of part d.hash64) (total_of part d.hashed) (total_of part d.ndefs)
    (c.total.ensures ∙ ap f c.as_slice.ensures) (c.total-2.ensures ∙ ap f c.as_slice-2.ensures)
    (c.total-3.ensures ∙ ap f c.as_slice-3.ensures) (c.total-4.ensures ∙ ap f c.as_slice-4.ensures))
