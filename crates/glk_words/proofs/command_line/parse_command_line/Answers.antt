use Rattle.glk_words.specs.Words.{texts_of}
use Rattle.glk_words.proofs.Accepted.{accepted}
use Rattle.glk_words.proofs.command_line.parse_command_line.Goals as goal

pub returns-in-Ok-clause-accepted : goal.returns-in-Ok-clause-accepted
returns-in-Ok-clause-accepted c = accepted (texts_of c.args.words.now) _ c.in-Ok.ensures.line
