-- How many rows a program has: those of its objects, and those of the linker.
use Rattle.std.proofs.Common.{◌≡◌, ◌+◌, ◌≤◌, ℕ, length, arith}
use Rattle.glk_arena.specs.World.{symbol_count}
use Rattle.glk_keys.specs.MadeNames.{made_count}
use Rattle.glk_keys.specs.Programs.{Program}
use Rattle.glk_keys.specs.RowLaws.{all_rows, own_count}
use Rattle.glk_keys.specs.Rows.{row_count, row_limit, asked_count}

pub rows_are : (p : Program) → row_count p ≡ symbol_count p.world + (asked_count + made_count + length p.builtins)
rows_are p =
    let all = all_rows p in
    let own = own_count p in
    omega (arith, all, own)

pub rows_few : (p : Program) → row_count p ≤ row_limit → symbol_count p.world ≤ row_limit
rows_few p few = let are = rows_are p in omega (arith, are, few)
