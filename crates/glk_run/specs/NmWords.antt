-- What the words of a command line ask of a listing of symbols.
use Rattle.std.specs.Prelude.{◌≡◌}
use Rattle.glk_words.specs.declared.commands.Flag.TheVariants as flag
use Rattle.glk_words.specs.declared.values.SymbolOrder.{SymbolOrder}
use Rattle.glk_words.specs.declared.values.SymbolOrder.TheVariants as by
use Rattle.glk_words.specs.CommandLine.{Invocation, IsTruth}
use Rattle.glk_words.specs.SymbolOrders.{symbol_order}
use Rattle.glk_nm.specs.declared.options.NmOptions.{NmOptions}
use Rattle.glk_nm.specs.declared.options.NmSort.{NmSort}
use Rattle.glk_nm.specs.declared.options.NmSort.TheVariants as sort

-- an order of symbols as a listing has it
abbrev pub sort_by : SymbolOrder → NmSort
sort_by by.Address = sort.Address
sort_by by.Name = sort.Name
sort_by by.Table = sort.Plain
sort_by by.Size = sort.Size

-- the words ask for this listing
pub record IsListing (words : Invocation) (opts : NmOptions) : Type 0 where
  pub size : IsTruth words.settings flag.Size opts.size
  pub sort : opts.sort ≡ sort_by (symbol_order words.settings)
