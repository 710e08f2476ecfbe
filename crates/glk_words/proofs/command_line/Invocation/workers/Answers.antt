use Rattle.glk_words.specs.declared.commands.Flag.TheVariants as flag
use Rattle.glk_words.specs.CommandLine.{settings_of}
use Rattle.glk_words.proofs.Settings.{given_accepted}
use Rattle.glk_words.proofs.command_line.Invocation.workers.Goals as goal

pub workers_in-requires : goal.workers_in-requires
workers_in-requires c = given_accepted (settings_of c.args.self.now) flag.Workers _ c.requires c.in-Some.ensures
