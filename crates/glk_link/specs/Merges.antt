-- Clashes of definitions as refusals, and what golink knows of the configuration files today.
use Rattle.std.specs.Prelude.{◌≡◌, ℕ, List, [], length, get_or, Option, Some}
use Rattle.std.specs.Option.{option_map}
use Rattle.glk_cause.specs.declared.cause.Cause.{Cause}
use Rattle.glk_cause.specs.declared.cause.Cause.TheVariants as cause
use Rattle.glk_obj.specs.Numbers.{kind_of, standard_number}
use Rattle.glk_obj.specs.declared.kinds.RelocKind.TheVariants.{Call, PcRel}
use Rattle.glk_arena.specs.World.{Package, paths_of, package_of_row}
use Rattle.glk_keys.specs.Clashes.{Clash, first_clash}
use Rattle.glk_keys.specs.Programs.{Program}
use Rattle.glk_keys.specs.Rows.{row_at}

-- the path of the package that holds a row of an object
abbrev pub row_path : List Package → ℕ → List ℕ
row_path world r = get_or (paths_of world) (package_of_row world r) []

-- the refusal of a clash: the name of the symbol, both rows, and the packages of both
abbrev pub clash_refusal : Program → Clash → Cause
clash_refusal p clash =
    cause.Clash (row_at p clash.first).symbol.name (record { 0 = clash.first }) (record { 0 = clash.second })
    (row_path p.world clash.first, row_path p.world clash.second)

-- the refusal of the first clash of a program
abbrev pub IsClash : Program → Cause → Type 0
IsClash p refusal = option_map (clash_refusal p) (first_clash p) ≡ Some refusal

-- What golink knows of the configuration files today: calls have their standard numbers, and there is no builtin.
pub record IsKnownConfig (p : Program) : Type 0 where
  pub call : kind_of p.numbers (standard_number Call) ≡ Some Call
  pub pc_relative : kind_of p.numbers (standard_number PcRel) ≡ Some PcRel
  pub no_builtin : length p.builtins ≡ 0
