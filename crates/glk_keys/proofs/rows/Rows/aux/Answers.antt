use Rattle.std.proofs.Common.{ℕ, List, sym, ◌∙◌, subst, arith}
use Rattle.glk_obj.specs.Positive.{IsTarget}
use Rattle.glk_obj.specs.Views.{ref_view}
use Rattle.glk_keys.proofs.ContentLaws.{object_is, auxes_count, auxes_nth}
use Rattle.glk_keys.proofs.rows.Rows.aux.Goals as goal

pub aux-requires-clause-index : goal.aux-requires-clause-index
aux-requires-clause-index c =
    let count = auxes_count c.args.self.now c.args.id.0 c.definition-at.result.object c.definition-at.result.index c.object.result.now c.object.ensures.value c.definition-at.ensures.row c.requires.definition in
    let h = c.requires.index in
    omega arith

pub returns-clause-value : goal.returns-clause-value
returns-clause-value c =
    let count = auxes_count c.args.self.now c.args.id.0 c.definition-at.result.object c.definition-at.result.index c.object.result.now c.object.ensures.value c.definition-at.ensures.row c.requires.definition in
    let h = c.requires.index in
    c.aux.ensures.value ∙ sym (auxes_nth c.args.self.now c.args.id.0 c.definition-at.result.object c.definition-at.result.index c.object.result.now c.object.ensures.value c.definition-at.ensures.row c.requires.definition c.args.k (omega arith))

pub returns-clause-target : goal.returns-clause-target
returns-clause-target c =
    let P : List ℕ → Type 0 = λ o. IsTarget o (ref_view c.aux.result.target) in
    subst P (sym (object_is c.args.self.now c.args.id.0 c.definition-at.result.object c.definition-at.result.index c.object.result.now c.object.ensures.value c.definition-at.ensures.row c.requires.definition)) c.aux.ensures.target
