-- The fields of an image, in the order of their addresses.
use Rattle.std.specs.Prelude.{◌≡◌, ℕ, pos, nat_lt, if◌then◌else◌, List, [], ◌∷◌, ◌++◌, length, get_or, map, Option, None, unwrap_or}
use Rattle.std.specs.List.{filter_map, range_with_len}
use Rattle.std.specs.List.Sorted.{IsPermutation, IsNonDecreasingBy}
use Rattle.std.specs.Option.{option_map}
use Rattle.glk_keys.specs.Relocations.{relocs_of, no_reloc}
use Rattle.glk_obj.specs.Records.{Reloc, field_start}
use Rattle.glk_obj.specs.declared.kinds.RelocKind.TheVariants.{Ignore}
use Rattle.glk_placing.specs.Members.{of_symbol, file_indices}
use Rattle.glk_placing.specs.Programs.{PlacedProgram}
use Rattle.glk_reloc.specs.declared.fields.Field.{Field}
use Rattle.glk_fields.specs.declared.places.FieldPlace.{FieldPlace}
use Rattle.glk_fields.specs.Values.{reloc_field}

-- The fields of one symbol.

-- relocation j of row r
abbrev pub reloc_in : PlacedProgram → (r j : ℕ) → Reloc
reloc_in s r j = get_or (relocs_of s.program r) j no_reloc

-- the place of the field of relocation j, if that writes one: the symbol, the offset in it, and the relocation
abbrev pub place_of : (i j : ℕ) → Reloc → FieldPlace
place_of i j reloc = record { index = i; offset = field_start reloc; reloc = j }

abbrev pub place_at : PlacedProgram → (i r address j : ℕ) → Option FieldPlace
place_at s i r address j = option_map (λ (f : Field). place_of i j (reloc_in s r j)) (reloc_field s r address (reloc_in s r j))

-- the places of the first n relocations of row r, which is that of kept symbol i
abbrev pub places_below : PlacedProgram → (i r address n : ℕ) → List FieldPlace
places_below s i r address n = filter_map (place_at s i r address) (range_with_len 0 n)

abbrev pub row_places : PlacedProgram → (i r address : ℕ) → List FieldPlace
row_places s i r address = places_below s i r address (length (relocs_of s.program r))

-- those of kept symbol i, in the order of its relocations
unfoldable pub symbol_places : PlacedProgram → ℕ → List FieldPlace
symbol_places s i = of_symbol s i (row_places s i) []

-- the same by their offsets
pub record AreOrdered (places ordered : List FieldPlace) : Type 0 where
  pub permutation : IsPermutation places ordered
  pub rising : IsNonDecreasingBy (λ (f : FieldPlace). f.offset) ordered

-- The fields of the image.

-- the places of the fields of symbols, symbol after symbol
abbrev pub ArePlacesOf : PlacedProgram → List ℕ → List FieldPlace → Type 0
ArePlacesOf s [] places = places ≡ []
ArePlacesOf s (i ∷ later) places =
    (own : List FieldPlace) × (rest : List FieldPlace)
    × (places ≡ own ++ rest) × AreOrdered (symbol_places s i) own × ArePlacesOf s later rest

-- the places of all fields, by address
abbrev pub AreFieldPlaces : PlacedProgram → List FieldPlace → Type 0
AreFieldPlaces s places = ArePlacesOf s (file_indices s) places

-- The field of a place.

abbrev pub no_field : Field
no_field = record { at = 0; size = 0; kind = Ignore; value = pos 0 }

-- the field of relocation j of row r, whose symbol is at an address, if there is such a relocation and it writes one
unfoldable pub row_field : PlacedProgram → (j r address : ℕ) → Option Field
row_field s j r address = if nat_lt j (length (relocs_of s.program r)) then reloc_field s r address (reloc_in s r j) else None

-- that of relocation j of kept symbol i
unfoldable pub symbol_field : PlacedProgram → (i j : ℕ) → Option Field
symbol_field s i j = if nat_lt i (length s.kept) then of_symbol s i (row_field s j) None else None

abbrev pub place_field : PlacedProgram → FieldPlace → Field
place_field s f = unwrap_or (symbol_field s f.index f.reloc) no_field

-- the fields of places
abbrev pub fields_at : PlacedProgram → List FieldPlace → List Field
fields_at s places = map (place_field s) places
