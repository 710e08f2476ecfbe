use Rattle.std.proofs.Common.{◌≡◌, ℕ, ◌≤◌, List, ap, ◌∙◌, subst, arith}
use Rattle.std.specs.List.{sum_by}
use Rattle.glk_arena.specs.World.{objects_of}
use Rattle.glk_obj.specs.Records.{symbols}
use Rattle.glk_keys.specs.Programs.{Program}
use Rattle.glk_keys.specs.RowLaws.{all_rows}
use Rattle.glk_keys.specs.Rows.{row_count, row_limit}
use Rattle.glk_keys.proofs.rows.Rows.count.Goals as goal

pub overflow_add-result : goal.overflow_add-result
overflow_add-result c =
    let same : c.self.inside.objects ≡ objects_of c.args.self.now.world = c.self.invariant.objects_are ∙ ap (λ (p : Program). objects_of p.world) c.self.view_is in
    let P : Program → Type 0 = λ p. row_count p ≤ row_limit in
    let small : row_count c.args.self.now ≤ row_limit = subst P c.self.view_is c.self.invariant.small in
    let rows : c.rows.result ≡ sum_by symbols (objects_of c.args.self.now.world) = c.rows.ensures.value ∙ ap (λ (o : List (List ℕ)). sum_by symbols o) same in
    let all = all_rows c.args.self.now in
    let own = c.own_count.ensures in
    omega arith

pub returns-clause-value : goal.returns-clause-value
returns-clause-value c =
    let same : c.self.inside.objects ≡ objects_of c.args.self.now.world = c.self.invariant.objects_are ∙ ap (λ (p : Program). objects_of p.world) c.self.view_is in
    let rows : c.rows.result ≡ sum_by symbols (objects_of c.args.self.now.world) = c.rows.ensures.value ∙ ap (λ (o : List (List ℕ)). sum_by symbols o) same in
    let all = all_rows c.args.self.now in
    let own = c.own_count.ensures in
    omega arith
