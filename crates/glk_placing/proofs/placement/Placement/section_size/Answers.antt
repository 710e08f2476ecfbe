use Rattle.std.proofs.Common.{◌≡◌, ◌∙◌, subst}
use Rattle.glk_layout.specs.Layout.{section_size}
use Rattle.glk_placing.specs.Programs.{PlacedProgram, contents_of}
use Rattle.glk_elf.specs.Placing.{of_section}
use Rattle.glk_placing.proofs.placement.Placement.section_size.Goals as goal

pub returns : goal.returns
returns c =
    let P : PlacedProgram → Type 0 = λ q. of_section c.self.inside.sizes c.args.number ≡ section_size (contents_of q) c.args.number in
    subst P c.self.view_is (c.self.invariant.ranges.sizes_at c.args.number c.requires.0 c.requires.1)
