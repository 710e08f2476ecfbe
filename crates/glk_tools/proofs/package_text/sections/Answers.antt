use Rattle.std.proofs.Common.{◌++◌, take, sym, ap, ◌∙◌}
use Rattle.glk_tools.specs.PackageText.{section_of, sections_of}
use Rattle.glk_tools.proofs.Sections.{no_sections, sections_more}
use Rattle.glk_tools.proofs.package_text.sections.Goals as goal

pub loop-object-init : goal.loop-object-init
loop-object-init c = c.new-text.ensures.items ∙ sym no_sections

pub loop-object-preserved : goal.loop-object-preserved
loop-object-preserved c =
    let n = c.loop-object.object-index in
    c.in_ok-push_section.ensures
    ∙ ap (λ t. t ++ section_of c.object-item.result) c.loop-object.invariant
    ∙ ap (λ o. sections_of (take n c.args.entries.now) ++ section_of o) c.object-item.is
    ∙ sym (sections_more c.args.entries.now n c.object-item.result c.loop-object-test.true)
