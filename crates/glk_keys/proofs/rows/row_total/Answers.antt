use Rattle.std.proofs.Common.{arith}
use Rattle.glk_keys.specs.Programs.{program_of}
use Rattle.glk_keys.specs.RowLaws.{all_rows, own_count}
use Rattle.glk_keys.proofs.rows.row_total.Goals as goal

pub returns : goal.returns
returns c = λ entry numbers.
    let all = all_rows (program_of c.args.loaded.now entry c.args.builtins.now numbers) in
    let own = own_count (program_of c.args.loaded.now entry c.args.builtins.now numbers) in
    let rows = c.rows.ensures in
    let len = c.len.ensures in
    let sum = c.saturating_add.ensures in
    omega arith
