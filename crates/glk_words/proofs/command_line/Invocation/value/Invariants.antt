use Rattle.std.proofs.Common.{take}
use Rattle.glk_words.specs.CommandLine.{settings_view, IsValueOf}
use Rattle.glk_words.proofs.command_line.Invocation.value.Given as goal

abbrev pub invariant-loop-setting : goal.invariant-loop-setting
invariant-loop-setting l = IsValueOf (settings_view (take l.setting-index l.setting-items)) l.flag l.last
