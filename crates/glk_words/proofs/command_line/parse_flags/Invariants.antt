use Rattle.std.proofs.Common.{◌≡◌, None, [], drop}
use Rattle.glk_words.specs.CommandLine.{settings_view, invocation_from}
use Rattle.glk_words.specs.Words.{texts_of}
use Rattle.glk_words.proofs.command_line.parse_flags.Given as goal

abbrev pub invariant-loop-index : goal.invariant-loop-index
invariant-loop-index l =
    invocation_from l.command l.pending (settings_view l.settings.items) l.index (drop l.index (texts_of l.words))
    ≡ invocation_from l.command None [] 1 (drop 1 (texts_of l.words))
