use Rattle.std.proofs.Common.{rules}
use Rattle.glk_init.specs.Graph.{InitGraph}
use Rattle.glk_init.proofs.FirstLemmas.{all_whole, first_of_tasks}
use Rattle.glk_init.proofs.tasks.init_tasks.Goals as goal

pub returns-in-None-clause-whole : goal.returns-in-None-clause-whole
returns-in-None-clause-whole g c =
    let w : InitGraph = g.P.InitProgram.graph c.args.program.now in
    all_whole w c.args.root c.in_ok-tasks.tasks.items c.in_ok-tasks.ensures.tasks (search (rules, c.in_ok-first_undefined.ensures, c.in-None.is))

pub returns-in-Some-clause-undefined : goal.returns-in-Some-clause-undefined
returns-in-Some-clause-undefined g c =
    let w : InitGraph = g.P.InitProgram.graph c.args.program.now in
    first_of_tasks w c.args.root c.in_ok-tasks.tasks.items _ c.in_ok-tasks.ensures.tasks (search (rules, c.in_ok-first_undefined.ensures, c.in-Some.is))
