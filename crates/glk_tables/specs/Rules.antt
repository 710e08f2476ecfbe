-- The rules P1 to P9 of a function's tables.
use Rattle.std.specs.Prelude.{ℕ, List, [], ◌∷◌, length, Bool, true, false, not, ◌||◌, Option, None, Some, cond, nat_lt, ℤ, pos, negsuc}
use Rattle.glk_pcval.specs.Table.{ranges, fault}
use Rattle.glk_obj.specs.declared.symbols.SymKind.TheVariants.{Rodata}
use Rattle.glk_tables.specs.declared.function.FuncdataTarget.{FuncdataTarget}
use Rattle.glk_tables.specs.declared.function.FuncdataTarget.TheVariants.{Empty, Untyped, Typed}
use Rattle.glk_obj.specs.Blocks.{count, file}
use Rattle.glk_obj.specs.FuncInfos.{node_at}
use Rattle.glk_obj.specs.References.{in_range}
use Rattle.glk_tables.specs.declared.table.Table.{Table}
use Rattle.glk_tables.specs.declared.table.Table.TheVariants.{Info, Pcsp, Pcfile, Pcline, Pcinline, Pcdata, Funcdata, Tree}
use Rattle.glk_tables.specs.Function.{Target, Absent, Undefined, Defined, FuncTables, table_bytes, holds_info, info_of, nodes_of}
use Rattle.glk_tables.specs.Calls.{caller, is_long, any_below}

-- ---- what is wrong with a table

-- the data are too short for a FuncInfo
abbrev pub is_short : Target → Bool
is_short Absent = false
is_short Undefined = false
is_short (Defined bytes) = not (holds_info bytes)

abbrev pub is_some : Option ℕ → Bool
is_some None = false
is_some (Some n) = true

-- these bytes are no pc table
unfoldable pub is_no_table : Target → Bool
is_no_table target = is_some (fault (table_bytes target))

-- a value is below -1, or not below a number
abbrev pub is_outside : ℕ → ℤ → Bool
is_outside n (pos k) = not (nat_lt k n)
is_outside n (negsuc below) = nat_lt 0 below

abbrev pub any_outside : ℕ → List (ℤ × ℕ) → Bool
any_outside n [] = false
any_outside n (range ∷ ranges) = is_outside n range.0 || any_outside n ranges

-- a range of a pc table has such a value
unfoldable pub has_outside : ℕ → Target → Bool
has_outside n target = any_outside n (ranges (table_bytes target))

-- a chain of inlined calls is too long
unfoldable pub has_long_chain : Option (List ℕ) → Target → Bool
has_long_chain None pcinline = false
has_long_chain (Some info) pcinline =
    any_below (is_long (caller info (table_bytes pcinline))) (nodes_of (Some info))

-- an inlined call is of a symbol that is out of range in the object
unfoldable pub has_stray_call : List ℕ → Option (List ℕ) → Bool
has_stray_call object None = false
has_stray_call object (Some info) = any_below (λ k. not (in_range object (node_at info k).func)) (nodes_of (Some info))

abbrev pub is_undefined : Target → Bool
is_undefined Absent = false
is_undefined Undefined = true
is_undefined (Defined bytes) = false

-- what a funcdata names is not read-only data
abbrev pub is_not_rodata : FuncdataTarget → Bool
is_not_rodata Empty = false
is_not_rodata Untyped = true
is_not_rodata (Typed Rodata) = false
is_not_rodata (Typed _) = true

abbrev pub any : {A : Type 0} → (A → Bool) → List A → Bool
any test [] = false
any test (x ∷ xs) = test x || any test xs

-- ---- the rules: the first table that breaks one

-- the first of these tables with a fault
abbrev pub first_table : List (Bool × Table) → Option Table
first_table [] = None
first_table (t ∷ ts) = cond t.0 (Some t.1) (first_table ts)

-- P1: there are two funcinfo auxes, or the FuncInfo is too short.
unfoldable pub p1 : FuncTables → Option Table
p1 f = first_table ((nat_lt 1 f.infos || is_short f.info, Info) ∷ [])

-- P2: a pc table is none.
unfoldable pub p2 : FuncTables → Option Table
p2 f = first_table (
    (is_no_table f.pcsp, Pcsp) ∷ (is_no_table f.pcfile, Pcfile) ∷ (is_no_table f.pcline, Pcline)
    ∷ (is_no_table f.pcinline, Pcinline) ∷ (any is_no_table f.pcdata, Pcdata) ∷ [])

-- P3: a value of pcfile is below -1 or not below the number of the object's files.
unfoldable pub p3 : List ℕ → FuncTables → Option Table
p3 object f = first_table ((has_outside (count object file) f.pcfile, Pcfile) ∷ [])

-- P4: a value of pcinline is below -1 or not below the number of nodes.
unfoldable pub p4 : FuncTables → Option Table
p4 f = first_table ((has_outside (nodes_of (info_of f.info)) f.pcinline, Pcinline) ∷ [])

-- P5: a chain from a node, on to pcinline's value where it was called, has more than 65,535 nodes.
unfoldable pub p5 : FuncTables → Option Table
p5 f = first_table ((has_long_chain (info_of f.info) f.pcinline, Tree) ∷ [])

-- P6: there are more than 65,535 pcdata, or more than 255 funcdata.
unfoldable pub p6 : FuncTables → Option Table
p6 f = first_table ((nat_lt 65535 (length f.pcdata), Pcdata) ∷ (nat_lt 255 (length f.funcdata), Funcdata) ∷ [])

-- P7: a funcdata names what is not read-only data.
unfoldable pub p7 : FuncTables → Option Table
p7 f = first_table ((any is_not_rodata f.funcdata, Funcdata) ∷ [])

-- P8: the function of a node is out of range in the object.
unfoldable pub p8 : List ℕ → FuncTables → Option Table
p8 object f = first_table ((has_stray_call object (info_of f.info), Tree) ∷ [])

-- P9: what an aux names has no definition.
unfoldable pub p9 : FuncTables → Option Table
p9 f = first_table (
    (is_undefined f.info, Info) ∷ (is_undefined f.pcsp, Pcsp) ∷ (is_undefined f.pcfile, Pcfile)
    ∷ (is_undefined f.pcline, Pcline) ∷ (is_undefined f.pcinline, Pcinline) ∷ (any is_undefined f.pcdata, Pcdata) ∷ [])

-- a table that breaks this rule, or what comes of the rules after it
abbrev pub by_rule : ℕ → Option Table → Option (Table × ℕ) → Option (Table × ℕ)
by_rule rule None later = later
by_rule rule (Some table) later = Some (table, rule)

-- The first of the rules after P5 that a function of an object breaks, and the first table that breaks it.
abbrev pub after_p5 : List ℕ → FuncTables → Option (Table × ℕ)
after_p5 object f = by_rule 6 (p6 f) (by_rule 7 (p7 f) (by_rule 8 (p8 object f) (by_rule 9 (p9 f) None)))

-- And of all rules.
unfoldable pub first_broken : List ℕ → FuncTables → Option (Table × ℕ)
first_broken object f =
    by_rule 1 (p1 f) (by_rule 2 (p2 f) (by_rule 3 (p3 object f) (by_rule 4 (p4 f) (by_rule 5 (p5 f) (after_p5 object f)))))
