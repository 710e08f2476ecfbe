-- Which definition of a key is chosen. A key is given by its number.
use Rattle.std.specs.Prelude.{ℕ, ◌==◌, ◌&&◌, nat_le, Bool, List, [], ◌∷◌, Option, None, Some, if◌then◌else◌}
use Rattle.std.specs.List.{filter, find, list_all, position}
use Rattle.std.specs.Option.{option_map, option_or}
use Rattle.std.specs.Str.{bytes_eq}
use Rattle.glk_obj.specs.Symbols.{abi0}
use Rattle.glk_keys.specs.Keys.{Key, short, long, of_object, named, row_key, key_id}
use Rattle.glk_keys.specs.MadeNames.{made_names}
use Rattle.glk_keys.specs.Programs.{Program}
use Rattle.glk_keys.specs.Rows.{row_at, positions, made_row, is_definition, is_strong, is_shared}

-- row r is a definition of key k
abbrev pub defines : Program → ℕ → ℕ → Bool
defines p k r = is_definition (row_at p r) && (key_id p r == k)

-- the definitions of a key, by load position
unfoldable pub definitions_of : Program → ℕ → List ℕ
definitions_of p k = filter (defines p k) (positions p)

-- those of them that are strong, and those that are shared
abbrev pub strong_definitions : Program → ℕ → List ℕ
strong_definitions p k = filter (λ r. is_strong (row_at p r)) (definitions_of p k)

abbrev pub shared_definitions : Program → ℕ → List ℕ
shared_definitions p k = filter (λ r. is_shared (row_at p r)) (definitions_of p k)

-- the size of a row's symbol
abbrev pub size_at : Program → ℕ → ℕ
size_at p r = (row_at p r).symbol.size

-- no row in the list is larger than row r
abbrev pub is_largest : Program → List ℕ → ℕ → Bool
is_largest p list r = list_all (λ q. nat_le (size_at p q) (size_at p r)) list

-- the first of the largest rows in the list
abbrev pub first_largest : Program → List ℕ → Option ℕ
first_largest p list = find (is_largest p list) list

-- the first of a list
abbrev pub first_of : {A : Type 0} → List A → Option A
first_of [] = None
first_of (x ∷ xs) = Some x

-- Among the definitions in objects: the strong one; else the first of the largest of those that are shared; else, of the rest.
unfoldable pub object_definition : Program → ℕ → Option ℕ
object_definition p k =
    option_or (first_of (strong_definitions p k))
    (option_or (first_largest p (shared_definitions p k)) (first_largest p (definitions_of p k)))

-- the number of the made name that a key is: a made name has ABI0
abbrev pub made_number : Key → Option ℕ
made_number (short hash) = None
made_number (long hash) = None
made_number (of_object n i) = None
made_number (named name abi) = if abi == abi0 then position (λ m. bytes_eq name m.name) made_names else None

abbrev pub made_name_of : Program → ℕ → Option ℕ
made_name_of p k = made_number (row_key (row_at p k))

-- The chosen definition of a key, if it has one: of a made name the made one, and definitions in objects are passed over. It is
-- asked of the numbers of keys.
unfoldable pub chosen_of : Program → ℕ → Option ℕ
chosen_of p k = option_or (option_map (made_row p) (made_name_of p k)) (object_definition p k)
