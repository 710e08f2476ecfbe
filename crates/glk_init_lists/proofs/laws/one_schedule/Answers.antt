use Rattle.glk_init_lists.proofs.OneSchedule.{one_schedule}
use Rattle.glk_init_lists.proofs.laws.one_schedule.Goals as goal

pub returns : goal.returns
returns c = one_schedule c.own_positions.ensures c.one_undefined.ensures c.one_cycle.ensures c.one_init_list.ensures
