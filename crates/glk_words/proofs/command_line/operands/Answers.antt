use Rattle.std.proofs.Common.{◌≡◌, ◌<◌, ◌+◌, length, true, false, rules, arith}
use Rattle.glk_words.specs.Commands.{takes_file}
use Rattle.glk_words.specs.Words.{texts_of}
use Rattle.glk_words.proofs.Steps.{many, extra_alone, extra_after}
use Rattle.glk_words.specs.CommandLine.{settings_view}
use Rattle.glk_words.proofs.command_line.operands.Goals as goal

pub returns-then-index-words-clause-fault : goal.returns-then-index-words-clause-fault
returns-then-index-words-clause-fault c =
    let alone : takes_file c.args.command ≡ false = search rules in
    let inside : c.args.index < length (texts_of c.args.words.now) = omega (arith, many c.args.words.now) in
    rw c.fault.ensures (extra_alone c.args.command (settings_view c.args.settings.items) (texts_of c.args.words.now) c.args.index alone inside)

pub returns-then-words-index-gt1-clause-fault : goal.returns-then-words-index-gt1-clause-fault
returns-then-words-index-gt1-clause-fault c =
    let one : takes_file c.args.command ≡ true = search rules in
    let inside : c.args.index + 1 < length (texts_of c.args.words.now) = omega (arith, many c.args.words.now) in
    rw c.fault-then-words-index-gt1.ensures (extra_after c.args.command (settings_view c.args.settings.items) (texts_of c.args.words.now) c.args.index one inside)
