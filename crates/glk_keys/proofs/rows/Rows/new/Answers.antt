use Rattle.std.proofs.Common.{arith}
use Rattle.glk_keys.specs.Programs.{program_of}
use Rattle.glk_keys.specs.RowLaws.{all_rows}
use Rattle.glk_keys.proofs.rows.Rows.new.Goals as goal

pub new-requires : goal.new-requires
new-requires c =
    let all = all_rows (program_of c.args.loaded.now c.args.entry.now c.args.builtins.now c.args.numbers) in
    let few = c.requires in
    omega arith
