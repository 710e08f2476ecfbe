use Rattle.std.proofs.Common.{◌≡◌, ◌∙◌, ℕ, List, [], length, vec_len, sym, ap, arith}
use Rattle.std.proofs.lemmas.Bool.{eqb-true, eq-eqb, false≢true}
use Rattle.glk_cause.specs.Chain.{fails, holds}
use Rattle.glk_link.proofs.TaskSteps.{none_of}
use Rattle.glk_link.proofs.link_packages.check_tasks.Goals.{else-is_empty-via-then-is_empty+else-is_empty-2, else-is_empty-via-else-is_empty}
use Rattle.glk_link.proofs.link_packages.check_tasks.Goals as goal

pub returns-then-is_empty-2 : goal.returns-then-is_empty-2
returns-then-is_empty-2 c p =
    let main = c.args.lists.now.main in
    let runtime = c.args.lists.now.runtime in
    let no_main : vec_len main ≡ 0 = eqb-true (vec_len main) 0 (sym c.is_empty.ensures ∙ c.if-is_empty.true) in
    let no_runtime : vec_len runtime ≡ 0 = eqb-true (vec_len runtime) 0 (sym c.is_empty-then-is_empty.ensures ∙ c.if-is_empty-2.true) in
    holds (none_of main.items (omega (arith, main.ok.0, no_main)), none_of runtime.items (omega (arith, runtime.ok.0, no_runtime)))

pub returns : goal.returns
returns c p = fails (λ none.
    let main = c.args.lists.now.main in
    let runtime = c.args.lists.now.runtime in
    let no_main : length main.items ≡ 0 = ap length none.0 in
    let no_runtime : length runtime.items ≡ 0 = ap length none.1 in
    elim c.else-is_empty.branch [
      | else-is_empty-via-then-is_empty+else-is_empty-2 w ↦
          false≢true (sym w.if-is_empty-2.false ∙ w.is_empty-then-is_empty.ensures ∙ eq-eqb (vec_len runtime) 0 (omega (arith, runtime.ok.0, no_runtime)))
      | else-is_empty-via-else-is_empty w ↦
          false≢true (sym w.if-is_empty.false ∙ c.is_empty.ensures ∙ eq-eqb (vec_len main) 0 (omega (arith, main.ok.0, no_main)))
    ])
