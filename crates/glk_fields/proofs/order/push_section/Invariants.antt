use Rattle.glk_fields.specs.Added.{AddsPlaces}
use Rattle.glk_fields.proofs.PlaceLists.{indices_below}
use Rattle.glk_fields.proofs.order.push_section.Given as goal

abbrev pub invariant-loop-i : goal.invariant-loop-i
invariant-loop-i l = AddsPlaces l.values (indices_below l.values l.number l.i) l.fn.places.items l.places.items
