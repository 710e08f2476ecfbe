-- The code's clash as what contracts speak of.
use Rattle.std.specs.Prelude.{◌≡◌, Option, Some, ⊤}
use Rattle.std.specs.Option.{option_map}
use Rattle.glk_base.specs.declared.fault.Fault.{Fault}
use Rattle.glk_base.specs.declared.fault.Fault.TheVariants as fault
use Rattle.glk_keys.specs.Clashes.{Clash, first_clash}
use Rattle.glk_keys.specs.Programs.{Program}
use Rattle.glk_keys.specs.Rows.{row_at}
use Rattle.glk_merge.specs.declared.clash.Clash.{Clash as NamedClash}
use Rattle.glk_merge.specs.declared.clash.ClashRows.{ClashRows}
use Rattle.glk_merge.specs.Mergings.{IsDefinitionRow}

abbrev pub clash_view : ClashRows → Clash
clash_view c = record { first = c.first.0; second = c.second.0 }

abbrev pub clash_views : Option ClashRows → Option Clash
clash_views c = option_map clash_view c

-- The first of all clashes, with the name of its symbol. Both rows are definitions of objects.
pub record IsFirstClash (p : Program) (c : NamedClash) : Type 0 where
  pub clash : first_clash p ≡ Some (record { first = c.first.0; second = c.second.0 })
  pub name : c.name ≡ (row_at p c.first.0).symbol.name
  pub first_defines : IsDefinitionRow p c.first.0
  pub second_defines : IsDefinitionRow p c.second.0

-- a refusal is the first clash
abbrev pub IsClashFault : Program → Fault NamedClash → Type 0
IsClashFault p (fault.Bad clash) = IsFirstClash p clash
IsClashFault p fault.OutOfMemory = ⊤
