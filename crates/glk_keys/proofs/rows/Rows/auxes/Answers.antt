use Rattle.std.proofs.Common.{sym, ◌∙◌}
use Rattle.glk_keys.proofs.ContentLaws.{auxes_count}
use Rattle.glk_keys.proofs.rows.Rows.auxes.Goals as goal

pub returns : goal.returns
returns c = c.auxes.ensures.value ∙ sym (auxes_count c.args.self.now c.args.id.0 c.definition-at.result.object c.definition-at.result.index c.object.result.now c.object.ensures.value c.definition-at.ensures.row c.requires.definition)
