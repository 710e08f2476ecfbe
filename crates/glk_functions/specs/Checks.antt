-- The first of the kept functions whose tables cannot be joined.
use Rattle.std.specs.Prelude.{◌≡◌, ℕ, List, [], ◌∷◌, Option, Some, None, ⊤}
use Rattle.std.specs.Option.{option_map, option_or}
use Rattle.glk_base.specs.declared.fault.Fault.{Fault}
use Rattle.glk_base.specs.declared.fault.Fault.TheVariants as fault
use Rattle.glk_keys.specs.Names.{key_name}
use Rattle.glk_keys.specs.Programs.{Program}
use Rattle.glk_tables.specs.declared.table.Table.{Table}
use Rattle.glk_functions.specs.Tables.{key_fault}
use Rattle.glk_functions.specs.declared.check.FunctionFault.{FunctionFault}
use Rattle.glk_functions.specs.declared.check.TableBad.{TableBad}

-- the fault of a function's tables, with its key
abbrev pub fault_of : ℕ → Table × ℕ → FunctionFault
fault_of k broken = record { key = k; table = broken.0; rule = broken.1 }

-- of these keys in order, the first function with a fault
abbrev pub first_fault : Program → List ℕ → Option FunctionFault
first_fault p [] = None
first_fault p (k ∷ keys) = option_or (option_map (fault_of k) (key_fault p k)) (first_fault p keys)

-- a refusal: the first fault, with the name of its function
pub record IsTableBad (p : Program) (keys : List ℕ) (bad : TableBad) : Type 0 where
  pub key : ℕ
  pub first : first_fault p keys ≡ Some (record { key = key; table = bad.table; rule = bad.rule })
  pub name : bad.func ≡ key_name p key

-- a refusal is the first fault
abbrev pub IsTableFault : Program → List ℕ → Fault TableBad → Type 0
IsTableFault p keys (fault.Bad bad) = IsTableBad p keys bad
IsTableFault p keys fault.OutOfMemory = ⊤
