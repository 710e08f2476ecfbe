-- What an object says of a function's tables: what its auxes name.
use Rattle.std.specs.Prelude.{ℕ, ◌<◌, ◌^◌, List, [], length, Bool, nat_le, Option, None, Some, cond}
use Rattle.glk_tables.specs.declared.function.FuncdataTarget.{FuncdataTarget}
use Rattle.glk_obj.specs.FuncInfos.{node_count, node_offset}

-- what an aux names: nothing, a symbol without a definition, or the data of its definition
pub data Target : Type 0 where
  Absent : Target
  Undefined : Target
  Defined : List ℕ → Target

-- A function's auxes: how many funcinfo there are, and what the first names; what the first of each of four pc tables
-- names; what each pcdata names; and what each funcdata names.
pub record FuncTables : Type 0 where
  pub infos : ℕ
  pub info : Target
  pub pcsp : Target
  pub pcfile : Target
  pub pcline : Target
  pub pcinline : Target
  pub pcdata : List Target
  pub funcdata : List FuncdataTarget

-- the bytes of a pc table: there are none without a definition
abbrev pub table_bytes : Target → List ℕ
table_bytes Absent = []
table_bytes Undefined = []
table_bytes (Defined bytes) = bytes

-- a pc table is of fewer than 2^32 bytes, as data of objects are
abbrev pub IsSmall : Target → Type 0
IsSmall target = length (table_bytes target) < 2 ^ 32

-- these data have all that the layout of a FuncInfo asks for
unfoldable pub holds_info : List ℕ → Bool
holds_info bytes = nat_le (node_offset bytes (node_count bytes)) (length bytes)

-- the FuncInfo, if there is one
abbrev pub info_of : Target → Option (List ℕ)
info_of Absent = None
info_of Undefined = None
info_of (Defined bytes) = cond (holds_info bytes) (Some bytes) None

-- how many nodes its inline tree has
abbrev pub nodes_of : Option (List ℕ) → ℕ
nodes_of None = 0
nodes_of (Some info) = node_count info
