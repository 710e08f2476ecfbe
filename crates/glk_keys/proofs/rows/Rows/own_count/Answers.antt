use Rattle.std.proofs.Common.{◌≡◌, ◌≤◌, length, ap, subst, arith}
use Rattle.glk_keys.specs.Programs.{Program}
use Rattle.glk_keys.specs.RowLaws.{all_rows, own_count}
use Rattle.glk_keys.specs.Rows.{row_count, row_limit}
use Rattle.glk_keys.proofs.rows.Rows.own_count.Goals as goal

pub overflow_add-result : goal.overflow_add-result
overflow_add-result c =
    let P : Program → Type 0 = λ p. row_count p ≤ row_limit in
    let small : row_count c.args.self.now ≤ row_limit = subst P c.self.view_is c.self.invariant.small in
    let long : length c.self.inside.builtins.now ≡ length c.args.self.now.builtins = ap (λ (p : Program). length p.builtins) c.self.view_is in
    let all = all_rows c.args.self.now in
    let own = own_count c.args.self.now in
    let len = c.len.ensures in
    omega arith

pub returns : goal.returns
returns c =
    let long : length c.self.inside.builtins.now ≡ length c.args.self.now.builtins = ap (λ (p : Program). length p.builtins) c.self.view_is in
    let own = own_count c.args.self.now in
    let len = c.len.ensures in
    omega arith
