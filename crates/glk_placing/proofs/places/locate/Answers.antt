use Rattle.glk_layout.specs.Placed.{placed_view}
use Rattle.glk_placing.proofs.PlaceSteps.{symbol_within}
use Rattle.glk_placing.proofs.places.locate.Goals as goal

pub returns-in-None-clause-within : goal.returns-in-None-clause-within
returns-in-None-clause-within c =
    symbol_within (placed_view c.args.contents.now) c.args.i c.symbol_location.result c.requires.placeable c.requires.small c.requires.inside c.symbol_location.ensures
