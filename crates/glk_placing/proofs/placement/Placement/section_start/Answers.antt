use Rattle.std.proofs.Common.{◌≡◌, ◌∙◌, subst}
use Rattle.glk_layout.specs.Layout.{section_address}
use Rattle.glk_placing.specs.Programs.{PlacedProgram, contents_of}
use Rattle.glk_elf.specs.Placing.{of_section}
use Rattle.glk_placing.proofs.placement.Placement.section_start.Goals as goal

pub returns : goal.returns
returns c =
    let P : PlacedProgram → Type 0 = λ q. of_section c.self.inside.addrs c.args.number ≡ section_address (contents_of q) c.args.number in
    subst P c.self.view_is (c.self.invariant.ranges.addrs_at c.args.number c.requires.0 c.requires.1)
