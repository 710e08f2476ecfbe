use Rattle.glk_init_lists.proofs.Steps.{tasks_ordered, told_cycle, cycle_told}
use Rattle.glk_init_lists.proofs.lists.ordered_tasks.Goals as goal

pub returns-in-Ok-clause-order : goal.returns-in-Ok-clause-order
returns-in-Ok-clause-order c = tasks_ordered c.args.merged.now.program c.args.root.now c.in-Ok.list.items c.in-Ok.ensures.list

pub cycle_cause-requires : goal.cycle_cause-requires
cycle_cause-requires c =
    let is = rw c.in-Err-Bad.field-0-is at c.in-Err-Bad.ensures.cycle in
    told_cycle c.args.merged.now.program c.args.root.now c.in-Err-Bad.cycle is

pub returns-in_ok-cycle_cause-in-Err-Bad-clause-order : goal.returns-in_ok-cycle_cause-in-Err-Bad-clause-order
returns-in_ok-cycle_cause-in-Err-Bad-clause-order c =
    let is = rw c.in-Err-Bad.field-0-is at c.in-Err-Bad.ensures.cycle in
    cycle_told c.args.merged.now.program c.args.root.now c.in-Err-Bad.cycle is c.in_ok-cycle_cause-in-Err-Bad.field-0 c.in_ok-cycle_cause-in-Err-Bad.ensures
