use Rattle.std.proofs.Common.{◌≤◌, length, arith}
use Rattle.glk_keys.specs.Rows.{row_count}
use Rattle.glk_merge.specs.Accessors.{key_numbers}
use Rattle.glk_tasks.specs.Tasks.{init_graph}
use Rattle.glk_tasks.proofs.Counts.{few_tasks}
use Rattle.glk_tasks.proofs.lists.list_of.Goals as goal

pub prove-unreachable-requires : goal.prove-unreachable-requires
prove-unreachable-requires c =
    let p = c.args.merged.now.program in
    let few : length c.args.tasks.now ≤ row_count p = few_tasks (init_graph p) (key_numbers c.args.root) c.args.tasks.now c.requires.tasks in
    omega arith
