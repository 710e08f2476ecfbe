-- Places that are added to a list.
use Rattle.std.specs.Prelude.{◌≡◌, ℕ, ◌++◌, All, List}
use Rattle.glk_placing.specs.Programs.{PlacedProgram}
use Rattle.glk_fields.specs.declared.places.FieldPlace.{FieldPlace}
use Rattle.glk_fields.specs.Places.{ArePlacesOf}
use Rattle.glk_fields.specs.Ready.{EndsInside}

-- the places of these symbols are added
pub record AddsPlaces (s : PlacedProgram) (indices : List ℕ) (old new : List FieldPlace) : Type 0 where
  pub more : List FieldPlace
  pub added : new ≡ old ++ more
  pub are : ArePlacesOf s indices more
  pub inside : All (EndsInside s) more
