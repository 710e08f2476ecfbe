use Rattle.glk_layout.specs.Placed.{placed_view}
use Rattle.glk_layout.proofs.SectionSteps.{SectionsTo}
use Rattle.glk_layout.proofs.placing.place_sections.Given as goal

abbrev pub invariant-loop-index : goal.invariant-loop-index
invariant-loop-index l = SectionsTo (placed_view l.contents) l.index l.end l.addrs l.sizes l.symbols l.made
