use Rattle.glk_merge.proofs.PollLaws.{key_of_row}
use Rattle.glk_merge.proofs.key_tables.key_of.Goals as goal

pub returns : goal.returns
returns c = key_of_row c.args.rows.now c.args.polled.now c.requires.polled c.args.id c.key.result.0 c.requires.row c.key.ensures
