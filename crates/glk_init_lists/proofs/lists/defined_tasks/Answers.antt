use Rattle.glk_init_lists.proofs.Steps.{tasks_defined, told_task, told_relocation, undefined_told}
use Rattle.glk_init_lists.proofs.lists.defined_tasks.Goals as goal

pub returns-in-Ok-clause-defined : goal.returns-in-Ok-clause-defined
returns-in-Ok-clause-defined c = tasks_defined c.args.merged.now.program c.args.root.now c.in-Ok.tasks.items c.in-Ok.ensures.tasks

pub undefined_cause-requires-clause-task : goal.undefined_cause-requires-clause-task
undefined_cause-requires-clause-task c =
    let is = rw c.in-Err-Bad.field-0-is at c.in-Err-Bad.ensures.undefined in
    told_task c.args.merged.now.program c.args.root.now c.in-Err-Bad.undefined is

pub undefined_cause-requires-clause-relocation : goal.undefined_cause-requires-clause-relocation
undefined_cause-requires-clause-relocation c =
    let is = rw c.in-Err-Bad.field-0-is at c.in-Err-Bad.ensures.undefined in
    told_relocation c.args.merged.now.program c.args.root.now c.in-Err-Bad.undefined is

pub returns-in_ok-undefined_cause-in-Err-Bad-clause-defined : goal.returns-in_ok-undefined_cause-in-Err-Bad-clause-defined
returns-in_ok-undefined_cause-in-Err-Bad-clause-defined c =
    let is = rw c.in-Err-Bad.field-0-is at c.in-Err-Bad.ensures.undefined in
    undefined_told c.args.merged.now.program c.args.root.now c.in-Err-Bad.undefined is c.in_ok-undefined_cause-in-Err-Bad.field-0 c.in_ok-undefined_cause-in-Err-Bad.ensures
