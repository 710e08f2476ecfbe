use Rattle.std.proofs.Common.{◌++◌, ap, ◌∙◌}
use Rattle.glk_objdesc.specs.Described.{description_of}
use Rattle.glk_objtext.specs.Text.{text_of}
use Rattle.glk_tools.proofs.Sections.{pushed}
use Rattle.glk_tools.proofs.package_text.push_section.Goals as goal

pub returns : goal.returns
returns c =
    let described = c.in_ok-description.ensures ∙ ap description_of c.view.ensures.value in
    let body = c.in_ok-body.ensures.lines ∙ ap text_of described in
    pushed c.args.object.now c.args.text.now.items c.extend_from_slice.new.self.items c.extend_from_slice-2.new.self.items
    c.extend_from_slice-3.new.self.items c.extend_from_slice-4.new.self.items c.in_ok-body.body.items
    c.in_ok-extend_from_slice.ensures.items
    (c.in_ok-extend_from_slice-2.ensures.items ∙ ap (λ n. c.extend_from_slice.new.self.items ++ n) c.shown_name-name.ensures)
    c.in_ok-extend_from_slice-3.ensures.items body
    (c.in_ok-extend_from_slice-4.ensures.items ∙ ap (λ b. c.extend_from_slice-3.new.self.items ++ b) c.deref.ensures.value)
