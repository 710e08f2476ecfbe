-- The kept symbols of a program, as their places are concerned.
use Rattle.std.specs.Prelude.{ℕ, ◌-◌, ◌^◌, min, List, length, map, Option, None, if◌then◌else◌}
use Rattle.std.specs.Option.{option_map_or}
use Rattle.glk_obj.specs.Symbols.{type_of}
use Rattle.glk_keys.specs.Definitions.{chosen_of}
use Rattle.glk_keys.specs.Programs.{Program}
use Rattle.glk_keys.specs.Rows.{Row, row_at, is_definition}
use Rattle.glk_layout.specs.declared.input.KeptSymbol.{KeptSymbol}
use Rattle.glk_layout.specs.Layout.{no_symbol}

-- the greatest length of a name: four bytes of an object tell it
abbrev pub longest_name : ℕ
longest_name = 2 ^ 32 - 1

-- what is placed of a row: the symbol of a definition in an object by its type; a made name has none
abbrev pub placed_symbol : Row → KeptSymbol
placed_symbol row = record {
  kind = if is_definition row then type_of row.symbol.kind else None;
  align = row.symbol.align;
  size = row.symbol.size;
  name_len = min (length row.symbol.name) longest_name;
}

-- what is placed of a key: the row of its chosen definition
unfoldable pub kept_symbol : Program → ℕ → KeptSymbol
kept_symbol p k = option_map_or (λ r. placed_symbol (row_at p r)) (chosen_of p k) no_symbol

abbrev pub kept_symbols : Program → List ℕ → List KeptSymbol
kept_symbols p list = map (kept_symbol p) list
