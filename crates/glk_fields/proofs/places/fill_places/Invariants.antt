use Rattle.std.proofs.Common.{◌≡◌, ◌<◌}
use Rattle.std.specs.Prelude.{All, IsTrue}
use Rattle.std.specs.List.Sorted.{IsNonDecreasingBy}
use Rattle.glk_fields.specs.declared.places.FieldPlace.{FieldPlace}
use Rattle.glk_fields.specs.Ready.{EndsInside}
use Rattle.glk_fields.specs.Places.{places_below}
use Rattle.glk_fields.proofs.places.fill_places.Given as goal

abbrev pub invariant-loop-j : goal.invariant-loop-j
invariant-loop-j l = record {
  places : l.places.items ≡ places_below l.values l.i l.id.0 l.address l.j;
  inside : All (EndsInside l.values) l.places.items;
  rising : IsTrue l.rises → IsNonDecreasingBy (λ (f : FieldPlace). f.offset) l.places.items;
}
