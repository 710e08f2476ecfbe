use Rattle.std.proofs.Common.{length, sym, ◌∙◌, subst}
use Rattle.glk_obj.specs.Positive.{HasDataWithin}
use Rattle.glk_keys.proofs.ContentLaws.{row_is, content_of}
use Rattle.glk_keys.specs.Rows.{Row}
use Rattle.glk_keys.proofs.rows.Rows.data.Goals as goal

pub returns-clause-value : goal.returns-clause-value
returns-clause-value c = c.data.ensures.value ∙ sym (content_of c.args.self.now c.args.id.0 c.definition-at.result.object c.definition-at.result.index c.object.result.now c.object.ensures.value c.definition-at.ensures.row c.requires.definition)

pub returns-clause-within : goal.returns-clause-within
returns-clause-within c =
    let P : Row → Type 0 = λ r. HasDataWithin r.symbol (length c.data.result.now) in
    subst P (sym (row_is c.args.self.now c.args.id.0 c.definition-at.result.object c.definition-at.result.index c.object.result.now c.object.ensures.value c.definition-at.ensures.row c.requires.definition)) c.data.ensures.within
