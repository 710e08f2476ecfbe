use Rattle.glk_messages.specs.Messages.{overflow_text}
use Rattle.glk_messages.proofs.message.write_overflow.Goals as goal

pub returns : goal.returns
unfolding overflow_text
returns g c = c.write_line.ensures
