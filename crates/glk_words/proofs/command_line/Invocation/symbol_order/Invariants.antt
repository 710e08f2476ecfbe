use Rattle.std.proofs.Common.{◌≡◌, take}
use Rattle.glk_words.specs.CommandLine.{settings_view}
use Rattle.glk_words.specs.SymbolOrders.{symbol_order}
use Rattle.glk_words.proofs.command_line.Invocation.symbol_order.Given as goal

abbrev pub invariant-loop-setting : goal.invariant-loop-setting
invariant-loop-setting l = l.order ≡ symbol_order (settings_view (take l.setting-index l.setting-items))
