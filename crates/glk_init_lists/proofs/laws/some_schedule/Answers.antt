use Rattle.glk_init_lists.proofs.SomeSchedule.{some_schedule}
use Rattle.glk_init_lists.proofs.laws.some_schedule.Goals as goal

pub returns : goal.returns
returns c = some_schedule c.awaited_keys.ensures c.root_keys.ensures c.some_tasks.ensures c.some_undefined.ensures c.some_init_list.ensures
