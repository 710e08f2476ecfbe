use Rattle.glk_keys.proofs.ContentLaws.{definition_of_object, definition_index}
use Rattle.glk_keys.proofs.rows.Rows.definition.Goals as goal

pub place-requires : goal.place-requires
place-requires c = definition_of_object c.args.self.now c.args.id c.requires.row c.requires.definition

pub returns-clause-index : goal.returns-clause-index
returns-clause-index c = definition_index c.args.self.now c.args.id c.place.result.object c.place.result.index c.place.ensures.row c.requires.definition
