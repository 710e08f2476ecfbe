-- The rows of a program: the symbols of the objects, objects in load order and in each its local indices in order, and after
-- them the linker's own.
use Rattle.std.specs.Prelude.{ℕ, ◌+◌, ◌-◌, ◌^◌, ◌==◌, ◌||◌, ◌&&◌, not, nat_lt, Bool, true, false, List, [], ◌∷◌, ◌++◌, map, length, get_or, codes, if◌then◌else◌}
use Rattle.std.specs.List.{range_with_len}
use Rattle.glk_arena.specs.World.{objects_of, symbol_count}
use Rattle.glk_base.specs.Groups.{group_start}
use Rattle.glk_obj.specs.Flags.{is_dupok}
use Rattle.glk_obj.specs.Records.{Symbol, symbols, symbol_at, data_at, hash64_at, hash_at}
use Rattle.glk_obj.specs.Symbols.{abi0, abi_internal}
use Rattle.glk_keys.specs.LocalIndices.{first_hashed64, first_hashed, first_named, first_reference}
use Rattle.glk_keys.specs.MadeNames.{MadeName, made_names, made_count}
use Rattle.glk_arena.specs.Builtins.{Builtin}
use Rattle.glk_keys.specs.Programs.{Program}

-- the block of its object in which a row is, with its hash where it has one; or the linker's own rows
pub data Origin : Type 0 where
  in_symdef : Origin
  in_hashed64def : (hash : List ℕ) → Origin
  in_hasheddef : (hash : List ℕ) → Origin
  in_nonpkgdef : Origin
  in_nonpkgref : Origin
  own : Origin

-- A row: the number of its object, its local index there, where it is from, its symbol, and its data. The linker's own rows are in
-- one object more, after all others; they and references have no data.
pub record Row : Type 0 where
  pub object : ℕ
  pub local : ℕ
  pub origin : Origin
  pub symbol : Symbol
  pub content : List ℕ

-- Rows of objects.

-- in which block symbol i of an object is
unfoldable pub origin_at : List ℕ → ℕ → Origin
origin_at b i =
    if nat_lt i (first_hashed64 b) then in_symdef
    else if nat_lt i (first_hashed b) then in_hashed64def (hash64_at b (i - first_hashed64 b))
    else if nat_lt i (first_named b) then in_hasheddef (hash_at b (i - first_hashed b))
    else if nat_lt i (first_reference b) then in_nonpkgdef
    else in_nonpkgref

-- the data of symbol i of an object; a reference has none
unfoldable pub content_at : List ℕ → ℕ → List ℕ
content_at b i = if nat_lt i (first_reference b) then data_at b i else []

-- the row of symbol i of object n, whose bytes are b
abbrev pub object_row : ℕ → List ℕ → ℕ → Row
object_row n b i = record { object = n; local = i; origin = origin_at b i; symbol = symbol_at b i; content = content_at b i }

abbrev pub object_rows : ℕ → List ℕ → List Row
object_rows n b = map (object_row n b) (range_with_len 0 (symbols b))

-- the rows of objects, the first of which has number n
abbrev pub rows_from : ℕ → List (List ℕ) → List Row
rows_from n [] = []
rows_from n (b ∷ later) = object_rows n b ++ rows_from (n + 1) later

-- The linker's own rows.

-- a symbol of which nothing is known but its name, its ABI and its size
abbrev pub bare_symbol : List ℕ → ℕ → ℕ → Symbol
bare_symbol name abi size = record { name = name; abi = abi; kind = 0; flag = 0; flag2 = 0; size = size; align = 0 }

-- a symbol that objects may define
abbrev pub reference_symbol : List ℕ → ℕ → Symbol
reference_symbol name abi = bare_symbol name abi 0

-- what stands for a method that is not kept, and for the initializer of a map that is not kept
abbrev pub unreachable_method : List ℕ
unreachable_method = codes "runtime.unreachableMethod"

abbrev pub map_init_noop : List ℕ
map_init_noop = codes "runtime.mapinitnoop"

-- the roots of initialization: of the main package, and of the runtime
abbrev pub main_init_task : List ℕ
main_init_task = codes "main..inittask"

abbrev pub runtime_init_task : List ℕ
runtime_init_task = codes "runtime..inittask"

-- the symbols that the linker itself asks for, where the entry has this name
abbrev pub asked_symbols : List ℕ → List Symbol
asked_symbols entry =
    reference_symbol entry abi0 ∷ reference_symbol entry abi_internal
    ∷ reference_symbol unreachable_method abi_internal ∷ reference_symbol unreachable_method abi0
    ∷ reference_symbol map_init_noop abi_internal ∷ reference_symbol map_init_noop abi0
    ∷ reference_symbol main_init_task abi0 ∷ reference_symbol runtime_init_task abi0 ∷ []

-- how many these are
abbrev pub asked_count : ℕ
asked_count = 8

-- a made name is a symbol of ABI0, and has the size of its table
abbrev pub made_symbol : MadeName → Symbol
made_symbol m = bare_symbol m.name abi0 m.size

abbrev pub builtin_symbol : Builtin → Symbol
builtin_symbol b = reference_symbol b.name b.abi

-- the linker's own symbols: those that it asks for, the made names in the order of their table, and the builtin list
unfoldable pub own_symbols : Program → List Symbol
own_symbols p = asked_symbols p.entry ++ map made_symbol made_names ++ map builtin_symbol p.builtins

abbrev pub no_symbol : Symbol
no_symbol = reference_symbol [] 0

-- the row of symbol i of these, in one object more than there are
abbrev pub own_row : ℕ → List Symbol → ℕ → Row
own_row n own_list i = record { object = n; local = i; origin = own; symbol = get_or own_list i no_symbol; content = [] }

abbrev pub own_rows : ℕ → List Symbol → List Row
own_rows n own_list = map (own_row n own_list) (range_with_len 0 (length own_list))

-- All rows. A row's number is its load position.

unfoldable pub rows_of : Program → List Row
rows_of p = rows_from 0 (objects_of p.world) ++ own_rows (length (objects_of p.world)) (own_symbols p)

abbrev pub no_row : Row
no_row = record { object = 0; local = 0; origin = own; symbol = no_symbol; content = [] }

abbrev pub row_at : Program → ℕ → Row
row_at p r = get_or (rows_of p) r no_row

abbrev pub row_count : Program → ℕ
row_count p = length (rows_of p)

-- the load positions from 0 on
abbrev pub positions : Program → List ℕ
positions p = range_with_len 0 (row_count p)

-- the bytes of object n
abbrev pub object_at : Program → ℕ → List ℕ
object_at p n = get_or (objects_of p.world) n []

-- the row of local index i of object n: the rows of the objects before it come first
unfoldable pub row_in_object : Program → ℕ → ℕ → ℕ
row_in_object p n i = group_start symbols (objects_of p.world) n + i

-- the row of made name k
unfoldable pub made_row : Program → ℕ → ℕ
made_row p k = symbol_count p.world + asked_count + k

-- the row of builtin k
unfoldable pub builtin_row : Program → ℕ → ℕ
builtin_row p k = symbol_count p.world + asked_count + made_count + k

-- a link has at most this many rows
abbrev pub row_limit : ℕ
row_limit = 2 ^ 24

-- What a row is.

abbrev pub is_from_definition : Origin → Bool
is_from_definition in_symdef = true
is_from_definition (in_hashed64def hash) = true
is_from_definition (in_hasheddef hash) = true
is_from_definition in_nonpkgdef = true
is_from_definition in_nonpkgref = false
is_from_definition own = false

-- a definition; the other rows are references, the linker's own among them
abbrev pub is_definition : Row → Bool
is_definition row = is_from_definition row.origin

abbrev pub is_from_hash : Origin → Bool
is_from_hash in_symdef = false
is_from_hash (in_hashed64def hash) = true
is_from_hash (in_hasheddef hash) = true
is_from_hash in_nonpkgdef = false
is_from_hash in_nonpkgref = false
is_from_hash own = false

-- known by a hash of its content
abbrev pub is_hashed : Row → Bool
is_hashed row = is_from_hash row.origin

-- its data are not empty
abbrev pub has_content : Row → Bool
has_content row = not (length row.content == 0)

-- a definition that is dupok, or known by a hash
abbrev pub is_shared : Row → Bool
is_shared row = is_definition row && (is_dupok row.symbol || is_hashed row)

-- a definition that is to be the only one of its kind: it has content, and is not shared
abbrev pub is_strong : Row → Bool
is_strong row = is_definition row && (has_content row && not (is_shared row))
