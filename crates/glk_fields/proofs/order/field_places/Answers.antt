use Rattle.std.proofs.Common.{◌≡◌, List, []}
use Rattle.glk_placing.specs.Members.{file_indices}
use Rattle.glk_fields.specs.Added.{AddsPlaces}
use Rattle.glk_fields.proofs.PlaceLists.{all_places, places_are, places_inside}
use Rattle.glk_fields.proofs.order.field_places.Goals as goal

pub returns-clause-places : goal.returns-clause-places
returns-clause-places c =
    places_are c.args.values.now (file_indices c.args.values.now) c.push_section-4.new.places.items
    (all_places c.args.values.now c.number.result c.number-2.result c.number-3.result c.number-4.result
    c.new-places.result.items c.push_section.new.places.items c.push_section-2.new.places.items c.push_section-3.new.places.items c.push_section-4.new.places.items
    c.new-places.ensures.items c.number.ensures.number c.number-2.ensures.number c.number-3.ensures.number c.number-4.ensures.number
    c.in_ok-push_section.ensures c.in_ok-push_section-2.ensures c.in_ok-push_section-3.ensures c.in_ok-push_section-4.ensures)

pub returns-clause-inside : goal.returns-clause-inside
returns-clause-inside c =
    places_inside c.args.values.now (file_indices c.args.values.now) c.push_section-4.new.places.items
    (all_places c.args.values.now c.number.result c.number-2.result c.number-3.result c.number-4.result
    c.new-places.result.items c.push_section.new.places.items c.push_section-2.new.places.items c.push_section-3.new.places.items c.push_section-4.new.places.items
    c.new-places.ensures.items c.number.ensures.number c.number-2.ensures.number c.number-3.ensures.number c.number-4.ensures.number
    c.in_ok-push_section.ensures c.in_ok-push_section-2.ensures c.in_ok-push_section-3.ensures c.in_ok-push_section-4.ensures)
