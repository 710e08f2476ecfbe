-- What is read of a key: of its chosen definition in an object. A made name has a definition, but no data, no relocations, no auxes
-- and no type, and neither has a key without a definition.
use Rattle.std.specs.Prelude.{ℕ, ◌==◌, Bool, List, [], map, Option, Some, None, is_some, if◌then◌else◌}
use Rattle.std.specs.Option.{option_and_then, option_map_or}
use Rattle.glk_obj.specs.Flags.{is_gotype, is_itab, is_typelink, is_reflectmethod}
use Rattle.glk_obj.specs.Records.{Symbol, Reloc, Aux, field_start}
use Rattle.glk_obj.specs.declared.kinds.RelocKind.TheVariants.{MethodOff}
use Rattle.glk_keys.specs.Definitions.{chosen_of}
use Rattle.glk_keys.specs.Keys.{key_id}
use Rattle.glk_keys.specs.Programs.{Program}
use Rattle.glk_keys.specs.Relocations.{relocs_of, auxes_of, reloc_kind, reloc_target}
use Rattle.glk_keys.specs.Rows.{row_at, row_count, is_definition, no_symbol}
use Rattle.glk_keys.specs.declared.target.Target.{Target}
use Rattle.glk_keys.specs.declared.target.Target.TheVariants as means
use Rattle.glk_readings.specs.Symbols.{SymbolTable}
use Rattle.glk_readings.specs.declared.symbols.Relocation.{Relocation}
use Rattle.glk_readings.specs.declared.symbols.TargetSymbol.{TargetSymbol}
use Rattle.glk_readings.specs.declared.symbols.TargetSymbol.TheVariants as symbol
use Rattle.glk_reach.specs.RelocKinds.{is_kind}

-- row k is the number of a key: the least row that has it
abbrev pub is_key : Program → ℕ → Bool
is_key p k = key_id p k == k

-- the row of the chosen definition of a key
unfoldable pub chosen_row : Program → ℕ → Option ℕ
chosen_row p k = if is_key p k then chosen_of p k else None

abbrev pub is_defined : Program → ℕ → Bool
is_defined p k = is_some (chosen_row p k)

-- the row, where it is a definition in an object
abbrev pub if_definition : Program → ℕ → Option ℕ
if_definition p r = if is_definition (row_at p r) then Some r else None

unfoldable pub definition_row : Program → ℕ → Option ℕ
definition_row p k = option_and_then (if_definition p) (chosen_row p k)

-- what is read of that row; of a key without one, this
abbrev pub of_definition : {A : Type 0} → Program → ℕ → (ℕ → A) → A → A
of_definition p k read none = option_map_or read (definition_row p k) none

unfoldable pub symbol_of : Program → ℕ → Symbol
symbol_of p k = of_definition p k (λ r. (row_at p r).symbol) no_symbol

unfoldable pub content_of : Program → ℕ → List ℕ
content_of p k = of_definition p k (λ r. (row_at p r).content) []

unfoldable pub key_relocs : Program → ℕ → List Reloc
key_relocs p k = of_definition p k (relocs_of p) []

unfoldable pub key_auxes : Program → ℕ → List Aux
key_auxes p k = of_definition p k (auxes_of p) []

-- What the flags of its symbol say.

abbrev pub is_type : Program → ℕ → Bool
is_type p k = is_gotype (symbol_of p k)

abbrev pub is_interface_table : Program → ℕ → Bool
is_interface_table p k = is_itab (symbol_of p k)

abbrev pub is_listed_type : Program → ℕ → Bool
is_listed_type p k = is_typelink (symbol_of p k)

abbrev pub calls_by_reflection : Program → ℕ → Bool
calls_by_reflection p k = is_reflectmethod (symbol_of p k)

-- What its relocations refer to.

-- the symbol that is meant, if one is
abbrev pub target_symbol : Target → Option TargetSymbol
target_symbol means.Nothing = None
target_symbol (means.Key key) = Some (symbol.Key key.0)
target_symbol (means.Missing pkg index) = Some (symbol.Missing pkg index)

-- the key that is meant, if one is
abbrev pub target_key : Option TargetSymbol → Option ℕ
target_key None = None
target_key (Some (symbol.Key t)) = Some t
target_key (Some (symbol.Missing pkg index)) = None

-- a relocation of row r, as it is read
abbrev pub relocation_of : Program → ℕ → Reloc → Relocation
relocation_of p r reloc = record {
  offset = field_start reloc;
  addend = reloc.add;
  target = target_symbol (reloc_target p r reloc);
  is_methodoff = is_kind MethodOff (reloc_kind p reloc);
}

-- the relocations of row r, as they are read, and of a key
abbrev pub row_relocations : Program → ℕ → List Relocation
row_relocations p r = map (relocation_of p r) (relocs_of p r)

unfoldable pub relocations_of : Program → ℕ → List Relocation
relocations_of p k = of_definition p k (row_relocations p) []

-- the symbols of the program, as they are read
abbrev pub symbols_of : Program → SymbolTable
symbols_of p = record { keys = row_count p; defined = is_defined p; content = content_of p; relocs = relocations_of p }
