use Rattle.glk_words.specs.CommandLine.{settings_of}
use Rattle.glk_words.proofs.Settings.{given_accepted}
use Rattle.glk_words.proofs.command_line.Invocation.is_set.Goals as goal

pub truth_in-requires-clause-accepted : goal.truth_in-requires-clause-accepted
truth_in-requires-clause-accepted c = given_accepted (settings_of c.args.self.now) c.args.flag _ c.requires.accepted c.in-Some.ensures
