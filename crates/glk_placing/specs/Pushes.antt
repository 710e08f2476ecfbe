-- Locations as they are added, one by one.
use Rattle.std.specs.Prelude.{◌≡◌, ℕ, ◌≤◌, ◌++◌, ◌∷◌, [], List, Option, Some, None}
use Rattle.glk_placing.specs.declared.location.Location.{Location}
use Rattle.glk_placing.specs.declared.places.LocationTable.{LocationTable}
use Rattle.glk_elf.specs.Sections.{placed_sections}
use Rattle.glk_placing.specs.Indices.{address_bound, location_in}

-- one more section and address are added, which stand for this location
pub record AddsLocation (old new : LocationTable) (l : Option Location) : Type 0 where
  pub section : ℕ
  pub address : ℕ
  pub sections : new.sections.items ≡ old.sections.items ++ section ∷ []
  pub addresses : new.addresses.items ≡ old.addresses.items ++ address ∷ []
  pub within : section ≤ placed_sections
  pub low : address ≤ address_bound
  pub stands : location_in section address ≡ l
