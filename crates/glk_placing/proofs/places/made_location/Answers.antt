use Rattle.std.proofs.Common.{◌∙◌, ap}
use Rattle.glk_keys.specs.MadeNames.{MadeName}
use Rattle.glk_layout.specs.Placed.{placed_view}
use Rattle.glk_placing.specs.Locations.{location, made_location}
use Rattle.glk_placing.proofs.places.made_location.Goals as goal

pub returns-clause-value : goal.returns-clause-value
returns-clause-value c =
    (λ z. location (c.number.ensures.number z) (c.place_address.ensures.value z)) ∙ ap (λ (m : MadeName). made_location (placed_view c.args.contents.now) m) c.made_name-name.ensures
