use Rattle.std.proofs.Common.{◌≡◌, ◌<◌, ◌≤◌, ◌+◌, ◌∙◌, List, ℕ, ap, length, get_or, subst, arith}
use Rattle.glk_arena.specs.World.{symbol_count, package_of_row}
use Rattle.glk_arena.proofs.TableLemmas.{table_start, table_row}
use Rattle.glk_arena.proofs.loaded.Loaded.package_of_row.Goals as goal

pub last_below-requires : goal.last_below-requires
last_below-requires c =
    let begin = table_start _ _ _ _ _ _ c.self.invariant.tables c.args.r (omega (arith, c.requires, ap symbol_count c.self.view_is)) in
    rw c.deref.ensures.value begin

pub returns-clause-value : goal.returns-clause-value
returns-clause-value c =
    let rows : c.deref.result.now ≡ c.self.inside.rows.items = c.deref.ensures.value in
    let k : ℕ = c.last_below.result in
    let inside : k < length c.self.inside.rows.items = omega (arith, c.last_below.ensures.inside, ap length rows) in
    let low : get_or c.self.inside.rows.items k 0 ≤ c.args.r = omega (arith, c.last_below.ensures.low, ap (λ xs. get_or xs k 0) rows) in
    let high : k + 1 < length c.self.inside.rows.items → c.args.r < get_or c.self.inside.rows.items (k + 1) 0 =
    subst (λ (xs : List ℕ). k + 1 < length xs → c.args.r < get_or xs (k + 1) 0) rows c.last_below.ensures.high in
    table_row _ _ _ _ _ _ c.self.invariant.tables c.args.r k (omega (arith, c.requires, ap symbol_count c.self.view_is)) inside low high
    ∙ ap (λ w. package_of_row w c.args.r) c.self.view_is
