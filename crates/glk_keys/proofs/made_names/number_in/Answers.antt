use Rattle.glk_keys.proofs.MadeLaws.{number_found, number_missed}
use Rattle.glk_keys.proofs.made_names.number_in.Goals as goal

pub returns-then-k-clause-number : goal.returns-then-k-clause-number
returns-then-k-clause-number c = number_found c.args.table.now c.requires c.args.name.now c.first_named-k.result c.first_named-k.ensures.place c.if-k.true

pub returns-else-k-clause-number : goal.returns-else-k-clause-number
returns-else-k-clause-number c = number_missed c.args.table.now c.requires c.args.name.now c.first_named-k.result c.first_named-k.ensures.place c.if-k.false
