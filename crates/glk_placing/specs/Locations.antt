-- Where the symbols of a program are.
use Rattle.std.specs.Prelude.{ℕ, ◌+◌, ◌==◌, List, get_or, Option, Some, None, if◌then◌else◌}
use Rattle.std.specs.Option.{option_map, option_and_then}
use Rattle.std.specs.List.{position_from}
use Rattle.glk_elf.specs.Views.{number_of}
use Rattle.glk_keys.specs.Definitions.{made_name_of}
use Rattle.glk_keys.specs.MadeNames.{MadeName, module_data_size}
use Rattle.glk_keys.specs.MadeViews.{made_at}
use Rattle.glk_keys.specs.declared.made_names.MadePlace.{MadePlace}
use Rattle.glk_keys.specs.declared.made_names.MadePlace.TheVariants.{Start, End, FindFuncTab, GcData, GcBss, MainTasks, RuntimeTasks, AfterModuleData}
use Rattle.glk_layout.specs.Layout.{section_address, section_size, made_address, symbol_at, address_within}
use Rattle.glk_layout.specs.Placed.{PlacedContents}
use Rattle.glk_layout.specs.Symbols.{home_of}
use Rattle.glk_placing.specs.declared.location.Location.{Location}
use Rattle.glk_placing.specs.Programs.{PlacedProgram, contents_of, key_at, made_index}
use Rattle.glk_placing.specs.declared.made.MadeContentKind.TheVariants as content

abbrev pub location : ℕ → ℕ → Location
location section address = record { section = section; address = address }

-- Made names.

-- the address of a place of section n
abbrev pub place_address : PlacedContents → ℕ → MadePlace → ℕ
place_address c n Start = section_address c n
place_address c n End = section_address c n + section_size c n
place_address c n FindFuncTab = made_address c (made_index content.FindFuncTab)
place_address c n GcData = made_address c (made_index content.Pointers)
place_address c n GcBss = made_address c (made_index content.Pointers)
place_address c n MainTasks = made_address c (made_index content.MainTasks)
place_address c n RuntimeTasks = made_address c (made_index content.RuntimeTasks)
place_address c n AfterModuleData = section_address c n + module_data_size

-- where a made name is
abbrev pub made_location : PlacedContents → MadeName → Location
made_location c m = location (number_of m.section) (place_address c (number_of m.section) m.place)

-- Kept symbols, by their index in the list of kept keys.

-- where symbol i is, which is in no made place; a symbol whose type has no section is nowhere
abbrev pub symbol_location : PlacedContents → ℕ → Option Location
symbol_location c i = option_map (λ n. location n (address_within c n i)) (home_of (symbol_at c i))

-- where symbol i is, if it is this made name
abbrev pub location_by : PlacedContents → ℕ → Option ℕ → Option Location
location_by c i (Some k) = Some (made_location c (made_at k))
location_by c i None = symbol_location c i

unfoldable pub kept_location : PlacedProgram → ℕ → Option Location
kept_location s i = location_by (contents_of s) i (made_name_of s.program (key_at s i))

-- Symbols by their keys.

-- the index of a key in a list of keys
unfoldable pub kept_index : List ℕ → ℕ → Option ℕ
kept_index list k = position_from (λ q. q == k) 0 list

-- where a key is, if it is kept
unfoldable pub key_location : PlacedProgram → ℕ → Option Location
key_location s k = option_and_then (kept_location s) (kept_index s.kept k)
