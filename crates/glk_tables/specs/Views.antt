-- The code's types as what contracts speak of.
use Rattle.std.specs.Prelude.{ℕ, ◌≡◌, All, List, map, Some}
use Rattle.glk_base.specs.declared.fault.Fault.{Fault}
use Rattle.glk_base.specs.declared.fault.Fault.TheVariants.{Bad, OutOfMemory}
use Rattle.glk_tables.specs.declared.table.BrokenTable.{BrokenTable}
use Rattle.glk_tables.specs.declared.table.Table.{Table}
use Rattle.glk_tables.specs.declared.function.AuxTarget.{AuxTarget}
use Rattle.glk_tables.specs.declared.function.AuxTarget.TheVariants as aux
use Rattle.glk_tables.specs.declared.function.FuncTables.{FuncTables as CodeTables}
use Rattle.glk_tables.specs.Function.{Target, Absent, Undefined, Defined, FuncTables, IsSmall}
use Rattle.glk_tables.specs.Rules.{first_broken}

abbrev pub target_view : AuxTarget → Target
target_view aux.Absent = Absent
target_view aux.Undefined = Undefined
target_view (aux.Defined bytes) = Defined bytes.now

abbrev pub tables_view : CodeTables → FuncTables
tables_view f = record {
  infos = f.infos;
  info = target_view f.info;
  pcsp = target_view f.pcsp;
  pcfile = target_view f.pcfile;
  pcline = target_view f.pcline;
  pcinline = target_view f.pcinline;
  pcdata = map target_view f.pcdata.now;
  funcdata = f.funcdata.now;
}

-- the pc tables are small
pub record HasSmallTables (f : CodeTables) : Type 0 where
  pub pcsp : IsSmall (target_view f.pcsp)
  pub pcfile : IsSmall (target_view f.pcfile)
  pub pcline : IsSmall (target_view f.pcline)
  pub pcinline : IsSmall (target_view f.pcinline)
  pub pcdata : All (λ target. IsSmall (target_view target)) f.pcdata.now

-- a refusal, as the rule and the table
abbrev pub broken_view : BrokenTable → Table × ℕ
broken_view b = (b.table, b.rule)

-- a refusal is the first one; want of memory may come at any time
abbrev pub RefusesFirst : List ℕ → FuncTables → Fault BrokenTable → Type 0
RefusesFirst object f OutOfMemory = Unit {0}
RefusesFirst object f (Bad bad) = first_broken object f ≡ Some (broken_view bad)
