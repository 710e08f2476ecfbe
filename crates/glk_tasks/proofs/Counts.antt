-- Tasks are no more than keys.
use Rattle.std.proofs.Common.{◌≡◌, ◌≤◌, ◌<◌, ℕ, List, length, Option, Some, None, ap, arith}
use Rattle.std.specs.List.{All}
use Rattle.std.specs.List.Sorted.{IsStrictlyIncreasing}
use Rattle.std.proofs.lemmas.Map.Steps.{length-le_from_distinct_below}
use Rattle.std.proofs.lemmas.Map.Views.{Contains-from_any}
use Rattle.std.proofs.lemmas.List.Elements.{All-contains}
use Rattle.std.proofs.lemmas.Bool.{eqb-true}
use Rattle.glk_init.specs.Graph.{InitGraph}
use Rattle.glk_init.proofs.RankLemmas.{tasks_distinct}
use Rattle.glk_tasks.specs.Lists.{AreTasksOf}

few_below : (tasks : List ℕ) (n : ℕ) → IsStrictlyIncreasing tasks → All (λ k. k < n) tasks → length tasks ≤ n
few_below tasks n up below =
    length-le_from_distinct_below tasks n (tasks_distinct tasks up)
    (λ q e. All-contains (λ k. k < n) tasks q below (Contains-from_any eqb-true q tasks e))

pub few_tasks : (g : InitGraph) (root : Option ℕ) (tasks : List ℕ) → AreTasksOf g root tasks → length tasks ≤ g.keys
few_tasks g None tasks none = let e : length tasks ≡ 0 = ap length none in omega arith
few_tasks g (Some root) tasks are = few_below tasks g.keys are.tasks.rising are.keys
