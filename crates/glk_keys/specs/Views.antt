-- The code's keys as what contracts speak of.
use Rattle.glk_keys.specs.Keys.{Key, short, long, of_object, named}
use Rattle.glk_keys.specs.declared.keys.SymbolKey.{SymbolKey}
use Rattle.glk_keys.specs.declared.keys.SymbolKey.TheVariants as key

abbrev pub key_view : SymbolKey → Key
key_view (key.Short hash) = short hash
key_view (key.Long hash) = long hash.now
key_view (key.OfObject object local) = of_object object local
key_view (key.Named name abi) = named name.now abi
