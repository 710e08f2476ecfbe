-- What an object says of the tables of a function that is kept.
use Rattle.std.specs.Prelude.{ℕ, ◌==◌, Bool, List, map, Option, None, if◌then◌else◌}
use Rattle.glk_obj.specs.Symbols.{text_type, funcinfo, funcdata, pcsp, pcfile, pcline, pcinline, pcdata}
use Rattle.glk_keys.specs.Programs.{Program}
use Rattle.glk_keys.specs.Rows.{row_at, object_at}
use Rattle.glk_reach.specs.Chosen.{symbol_of, of_definition}
use Rattle.glk_tables.specs.Function.{FuncTables}
use Rattle.glk_tables.specs.Rules.{first_broken}
use Rattle.glk_tables.specs.declared.table.Table.{Table}
use Rattle.glk_functions.specs.declared.auxes.NamedAux.{NamedAux}
use Rattle.glk_functions.specs.Auxes.{named_auxes, named_count, first_named, all_named, bytes_of, funcdata_of}

-- the tables that these auxes name
abbrev pub tables_of : Program → List NamedAux → FuncTables
tables_of p auxes = record {
  infos = named_count funcinfo auxes;
  info = bytes_of p (first_named funcinfo auxes);
  pcsp = bytes_of p (first_named pcsp auxes);
  pcfile = bytes_of p (first_named pcfile auxes);
  pcline = bytes_of p (first_named pcline auxes);
  pcinline = bytes_of p (first_named pcinline auxes);
  pcdata = map (bytes_of p) (all_named pcdata auxes);
  funcdata = map (funcdata_of p) (all_named funcdata auxes);
}

-- the tables of the function of row r
unfoldable pub row_tables : Program → ℕ → FuncTables
row_tables p r = tables_of p (named_auxes p r)

-- the first rule, of P1 to P9, that they break, and the first table that breaks it
unfoldable pub row_fault : Program → ℕ → Option (Table × ℕ)
row_fault p r = first_broken (object_at p (row_at p r).object) (row_tables p r)

-- a key is a function: its definition in an object says so
unfoldable pub is_function : Program → ℕ → Bool
is_function p k = (symbol_of p k).kind == text_type

-- the fault of a key's tables; what is no function has none
unfoldable pub key_fault : Program → ℕ → Option (Table × ℕ)
key_fault p k = if is_function p k then of_definition p k (row_fault p) None else None
