use Rattle.std.proofs.lemmas.Bool.{false≢true}
use Rattle.glk_words.proofs.Settings.{not_both}
use Rattle.glk_words.proofs.command_line.Invocation.has.Goals as goal

pub returns-in-None : goal.returns-in-None
returns-in-None c = (λ is. absurd (false≢true is), λ has. absurd (not_both _ c.args.flag c.in-None.ensures has))
