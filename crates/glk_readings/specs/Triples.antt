-- The method triples of a symbol: three METHODOFF relocations that stand at places 3i to 3i+2 of a longest run of such, weak and
-- strong alike.
use Rattle.std.specs.Prelude.{ℕ, ◌+◌, ◌%◌, ◌==◌, ◌&&◌, Bool, false, List, take, length, Option, Some, None, slice_get, if◌then◌else◌}
use Rattle.std.specs.List.{filter_map, range_with_len, suffix_len}
use Rattle.std.specs.Option.{option_map_or, option_and_then}
use Rattle.glk_readings.specs.declared.symbols.Relocation.{Relocation}
use Rattle.glk_readings.specs.declared.symbols.TargetSymbol.{TargetSymbol}
use Rattle.glk_readings.specs.declared.triples.MethodTriple.{MethodTriple}

-- relocation i is a METHODOFF
abbrev pub is_methodoff_at : List Relocation → ℕ → Bool
is_methodoff_at relocs i = option_map_or (λ reloc. reloc.is_methodoff) (slice_get relocs i) false

-- how many METHODOFF relocations stand directly before relocation i
abbrev pub run_before : List Relocation → ℕ → ℕ
run_before relocs i = suffix_len (λ reloc. reloc.is_methodoff) (take i relocs)

-- a method triple begins at relocation i
abbrev pub begins_triple : List Relocation → ℕ → Bool
begins_triple relocs i =
    (run_before relocs i % 3 == 0)
    && (is_methodoff_at relocs i && (is_methodoff_at relocs (i + 1) && is_methodoff_at relocs (i + 2)))

-- the target of relocation i, if it has one
abbrev pub target_at : List Relocation → ℕ → Option TargetSymbol
target_at relocs i = option_and_then (λ reloc. reloc.target) (slice_get relocs i)

-- the triple at relocations i to i + 2: its targets are a method's type, and its two functions
abbrev pub triple_at : List Relocation → ℕ → MethodTriple
triple_at relocs i =
    record {
      index = i;
      first = target_at relocs i;
      second = target_at relocs (i + 1);
      third = target_at relocs (i + 2);
    }

-- the triple that begins at relocation i, if one does
unfoldable pub triple_from : List Relocation → ℕ → Option MethodTriple
triple_from relocs i = if begins_triple relocs i then Some (triple_at relocs i) else None

-- The triples, in order: triple j is that of method j.
unfoldable pub triples_of : List Relocation → List MethodTriple
triples_of relocs = filter_map (triple_from relocs) (range_with_len 0 (length relocs))
