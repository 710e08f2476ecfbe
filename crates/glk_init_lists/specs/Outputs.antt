-- What the schedule of a program is to contracts.
use Rattle.glk_keys.specs.Programs.{Program}
use Rattle.glk_init_lists.specs.Schedules.{Scheduled}
use Rattle.glk_init_lists.specs.declared.lists.InitLists.{InitLists}

abbrev pub scheduled_of : Program → InitLists → Scheduled
scheduled_of p lists = record { program = p; main = lists.main.items; runtime = lists.runtime.items }
