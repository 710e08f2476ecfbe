-- The kept symbols of each section.
use Rattle.std.specs.Prelude.{ℕ, ◌++◌, Bool, List, length, filter}
use Rattle.std.specs.List.{range_with_len}
use Rattle.std.specs.Option.{option_map_or}
use Rattle.glk_elf.specs.Sections.{text, rodata, noptrdata, written_data}
use Rattle.glk_keys.specs.Definitions.{chosen_of}
use Rattle.glk_layout.specs.Symbols.{is_in}
use Rattle.glk_placing.specs.KeptSymbols.{kept_symbol}
use Rattle.glk_placing.specs.Locations.{kept_location}
use Rattle.glk_placing.specs.Programs.{PlacedProgram, key_at}
use Rattle.glk_placing.specs.declared.location.Location.{Location}

-- what kept symbol i has of a reading of its chosen row and its address, if it has both
abbrev pub of_symbol : {A : Type 0} → PlacedProgram → (i : ℕ) → ((r address : ℕ) → A) → A → A
of_symbol s i read none =
    option_map_or (λ r. option_map_or (λ (l : Location). read r l.address) (kept_location s i) none) (chosen_of s.program (key_at s i)) none

-- kept symbol i is a definition of an object in section n
abbrev pub is_at : PlacedProgram → ℕ → ℕ → Bool
is_at s n i = is_in n (kept_symbol s.program (key_at s i))

-- the kept symbols of section n, by index: so are their addresses
abbrev pub indices_in : PlacedProgram → ℕ → List ℕ
indices_in s n = filter (is_at s n) (range_with_len 0 (length s.kept))

-- the kept symbols of the sections in the file that hold symbols, by address
abbrev pub file_indices : PlacedProgram → List ℕ
file_indices s = indices_in s text ++ indices_in s rodata ++ indices_in s noptrdata ++ indices_in s written_data
