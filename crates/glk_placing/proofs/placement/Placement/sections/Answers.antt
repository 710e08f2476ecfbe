use Rattle.std.proofs.Common.{◌≡◌, subst}
use Rattle.glk_layout.specs.Sections.{AreRanges}
use Rattle.glk_placing.proofs.Bounds.{sections_end}
use Rattle.glk_placing.proofs.Placeable.{placeable}
use Rattle.glk_placing.specs.Programs.{PlacedProgram, contents_of, placed_program}
use Rattle.glk_placing.proofs.placement.Placement.sections.Goals as goal

pub returns-clause-ranges : goal.returns-clause-ranges
returns-clause-ranges c =
    let P : PlacedProgram → Type 0 = λ q. AreRanges (contents_of q) c.self.inside.addrs c.self.inside.sizes in
    subst P c.self.view_is c.self.invariant.ranges

pub returns-clause-limit : goal.returns-clause-limit
returns-clause-limit c =
    let s = placed_program c.self.inside.merged.now.program c.self.inside.kept.now c.self.inside.made c.self.inside.tables in
    sections_end (contents_of s) c.self.inside.addrs c.self.inside.sizes (placeable s c.self.invariant.few c.self.invariant.small) c.self.invariant.within c.self.invariant.ranges
