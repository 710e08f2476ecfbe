use Rattle.std.proofs.Common.{◌∙◌, ap}
use Rattle.glk_keys.specs.Definitions.{made_name_of}
use Rattle.glk_placing.proofs.PlaceSteps.{locations_more}
use Rattle.glk_placing.specs.Locations.{kept_location, location_by}
use Rattle.glk_placing.specs.Programs.{placed_program, key_at}
use Rattle.glk_placing.proofs.places.locations.Goals as goal

pub loop-i-preserved : goal.loop-i-preserved
unfolding kept_location
loop-i-preserved c =
    let s = placed_program c.args.merged.now.program c.args.kept.now c.args.made.now c.args.contents.now.tables in
    let added = c.in_ok-push_location.ensures {u = tt} in
    locations_more s c.loop-i.i added.section added.address c.loop-i.locations.sections.items c.loop-i.locations.addresses.items
    c.push_location.new.locations.sections.items c.push_location.new.locations.addresses.items c.loop-i.invariant added.sections added.addresses added.within added.low
    (added.stands ∙ (c.locate.ensures.value ∙ ap (λ x. location_by x c.loop-i.i (made_name_of c.args.merged.now.program (key_at s c.loop-i.i))) c.requires.contents))
