use Rattle.glk_link.proofs.LinkSome.{some_first}
use Rattle.glk_link.proofs.laws.some_first.Goals as goal

pub returns : goal.returns
returns c = some_first c.some_config.ensures c.some_load.ensures c.some_schedule.ensures
