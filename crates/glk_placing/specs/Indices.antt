-- How the places of keys are kept: numbers in tables.
use Rattle.std.specs.Prelude.{◌≡◌, ℕ, ◌-◌, ◌^◌, ◌<◌, ◌≤◌, ◌==◌, List, length, get_or, Option, Some, None, if◌then◌else◌}
use Rattle.glk_elf.specs.Sections.{text, placed_sections}
use Rattle.glk_placing.specs.declared.location.Location.{Location}
use Rattle.glk_placing.specs.Locations.{location, kept_index, kept_location}
use Rattle.glk_placing.specs.Programs.{PlacedProgram}

-- what stands for a key that is not kept
abbrev pub not_kept : ℕ
not_kept = 2 ^ 32 - 1

abbrev pub index_in : ℕ → Option ℕ
index_in n = if n == not_kept then None else Some n

-- at each key below a number its index in the list
pub record AreIndices (list : List ℕ) (keys : ℕ) (indices : List ℕ) : Type 0 where
  pub long : length indices ≡ keys
  pub each : (k : ℕ) → k < keys → index_in (get_or indices k 0) ≡ kept_index list k

-- no address of a symbol is greater
abbrev pub address_bound : ℕ
address_bound = 2 ^ 50

-- a section of number 0 stands for no location
abbrev pub location_in : ℕ → ℕ → Option Location
location_in section address = if section == 0 then None else Some (location section address)

-- the locations of the first n kept symbols
pub record AreLocationsTo (s : PlacedProgram) (n : ℕ) (sections addresses : List ℕ) : Type 0 where
  pub sections_long : length sections ≡ n
  pub addresses_long : length addresses ≡ n
  pub within : (i : ℕ) → i < n → get_or sections i 0 ≤ placed_sections
  pub low : (i : ℕ) → i < n → get_or addresses i 0 ≤ address_bound
  pub each : (i : ℕ) → i < n → location_in (get_or sections i 0) (get_or addresses i 0) ≡ kept_location s i

-- a location is in one of the sections
pub record IsInSection (l : Location) : Type 0 where
  pub from : text ≤ l.section
  pub to : l.section ≤ placed_sections
  pub low : l.address ≤ address_bound
