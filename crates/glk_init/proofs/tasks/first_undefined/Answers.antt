use Rattle.std.proofs.Common.{ℕ, List, subst, sym, get_or, arith}
use Rattle.std.proofs.lemmas.List.{take_more, take_all}
use Rattle.glk_init.specs.Graph.{InitGraph}
use Rattle.glk_init.specs.Reached.{IsFirstAmong}
use Rattle.glk_init.proofs.FirstLemmas.{among_more}
use Rattle.glk_init.proofs.tasks.first_undefined.Goals as goal

pub loop-task-preserved : goal.loop-task-preserved
loop-task-preserved g c =
    let w : InitGraph = g.P.InitProgram.graph c.args.program.now in
    let xs : List ℕ = c.args.tasks.now in
    let i : ℕ = c.loop-task.task-index in (
      subst (λ (ys : List ℕ). IsFirstAmong w ys c.with_task-first.result) (sym (take_more xs i 0 c.loop-task-test.true))
          (among_more w _ (get_or xs i 0) c.loop-task.first _ c.with_task-first.result c.loop-task.invariant.0 c.in_ok-missing.ensures c.with_task-first.ensures.value),
      c.with_task-first.ensures.within,
    )

pub returns : goal.returns
returns g c =
    let w : InitGraph = g.P.InitProgram.graph c.args.program.now in
    subst (λ (ys : List ℕ). IsFirstAmong w ys c.loop-task.first) (take_all c.loop-task.task-index c.args.tasks.now (omega (arith, c.loop-task-test.false))) c.loop-task.invariant.0
