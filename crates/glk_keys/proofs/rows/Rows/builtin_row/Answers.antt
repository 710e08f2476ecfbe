use Rattle.std.proofs.Common.{ℕ, ◌<◌, ◌≤◌, length, refl, ap, arith}
use Rattle.glk_base.proofs.Groups.{lt_true, lt_false}
use Rattle.glk_keys.specs.RowLaws.{all_rows, own_count}
use Rattle.glk_keys.specs.Rows.{builtin_row}
use Rattle.glk_keys.specs.Targets.{row, builtin_referent}
use Rattle.glk_keys.proofs.rows.Rows.builtin_row.Goals as goal

pub overflow_sub-count : goal.overflow_sub-count
overflow_sub-count c =
    let all = all_rows c.args.self.now in
    let own = own_count c.args.self.now in
    let count = c.count-count.ensures.value in
    let first = c.of_objects-first.ensures.value in
    omega arith

pub returns-then-index-count-clause-row : goal.returns-then-index-count-clause-row
unfolding builtin_referent builtin_row
returns-then-index-count-clause-row c =
    let p = c.args.self.now in
    let all = all_rows p in
    let own = own_count p in
    let count = c.count-count.ensures.value in
    let first = c.of_objects-first.ensures.value in
    let index = c.if-index-count.true in
    let inside : c.args.index < length p.builtins = omega arith in
    rw (lt_true c.args.index (length p.builtins) inside) (ap (λ (r : ℕ). row r) (omega arith))

pub returns-else-index-count-clause-row : goal.returns-else-index-count-clause-row
unfolding builtin_referent
returns-else-index-count-clause-row c =
    let p = c.args.self.now in
    let all = all_rows p in
    let own = own_count p in
    let count = c.count-count.ensures.value in
    let first = c.of_objects-first.ensures.value in
    let index = c.if-index-count.false in
    let outside : length p.builtins ≤ c.args.index = omega arith in
    rw (lt_false c.args.index (length p.builtins) outside) refl
