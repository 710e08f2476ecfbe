-- The order in which `nm` lists symbols: the last setting that asks for one counts.
use Rattle.std.specs.Prelude.{ℕ, List, [], ◌∷◌, Option, Some, None, Bool, true, false, unwrap_or}
use Rattle.glk_words.specs.declared.commands.Flag.{Flag}
use Rattle.glk_words.specs.declared.commands.Flag.TheVariants as flag
use Rattle.glk_words.specs.declared.values.SymbolOrder.{SymbolOrder}
use Rattle.glk_words.specs.declared.values.SymbolOrder.TheVariants as by
use Rattle.glk_words.specs.Values.{found_in, truth_of, sorts}
use Rattle.glk_words.specs.CommandLine.{FlagSetting}

-- `-n` asks for the order of addresses where it is true
abbrev pub by_address : Option Bool → Option SymbolOrder
by_address None = None
by_address (Some false) = None
by_address (Some true) = Some by.Address

-- the order that a flag with this value asks for, if it asks for one
abbrev pub order_by : Flag → List ℕ → Option SymbolOrder
order_by flag.ByAddress value = by_address (truth_of value)
order_by flag.Sort value = found_in sorts value
order_by f value = None

-- the order that these settings ask for, or this one where they ask for none
abbrev pub order_after : SymbolOrder → List FlagSetting → SymbolOrder
order_after order [] = order
order_after order (setting ∷ more) = order_after (unwrap_or (order_by setting.flag setting.value) order) more

-- the order that settings ask for: by name where they ask for none
abbrev pub symbol_order : List FlagSetting → SymbolOrder
symbol_order settings = order_after by.Name settings
