use Rattle.glk_init_lists.proofs.Steps.{refusals_of_link}
use Rattle.glk_init_lists.proofs.laws.schedule_refusals.Goals as goal

pub returns : goal.returns
returns c = refusals_of_link
