use Rattle.std.proofs.Common.{◌<◌, ℕ, length, get_or, subst}
use Rattle.std.proofs.lemmas.List.Elements.{Contains-get_or}
use Rattle.std.proofs.lemmas.Result.{IfOk-weaker}
use Rattle.glk_closure.proofs.Steps.{marked_within}
use Rattle.glk_init.specs.Graph.{InitGraph}
use Rattle.glk_init.specs.Tasks.{AreTasks}
use Rattle.glk_init.proofs.TaskLemmas.{kept_are_tasks}
use Rattle.glk_init.proofs.reached.reached_keys.Goals as goal

pub returns : goal.returns
returns g c =
    let w : InitGraph = g.P.InitProgram.graph c.args.program.now in
    record {
      tasks = IfOk-weaker c.list.result _ (λ tasks. AreTasks w c.args.root tasks.items)
          (λ list h. record {
            rising = h.rising;
            exact = λ k. (
              λ m. (kept_are_tasks w c.args.root k).0 ((c.in_ok-kept.ensures.kept k).0 ((h.exact k).0 m)),
              λ t. (h.exact k).1 ((c.in_ok-kept.ensures.kept k).1 ((kept_are_tasks w c.args.root k).1 t)),
            );
          }) c.list.ensures;
      keys = IfOk-weaker c.list.result _ (λ tasks. (k d : ℕ) → k < length tasks.items → get_or tasks.items k d < w.keys)
          (λ list h. λ k d l. subst (λ (n : ℕ). get_or list.items k d < n) c.in_ok-kept.ensures.kept_keys
          (marked_within c.in_ok-kept.kept.kept (get_or list.items k d) ((h.exact (get_or list.items k d)).0 (Contains-get_or list.items k d l)))) c.list.ensures;
    }
