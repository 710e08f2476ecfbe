use Rattle.std.proofs.Common.{ℕ, List, sym, ◌∙◌, subst, arith}
use Rattle.glk_obj.specs.Positive.{IsTarget, HasFieldWithin}
use Rattle.glk_obj.specs.Views.{ref_view, reloc_view}
use Rattle.glk_keys.proofs.ContentLaws.{row_is, object_is, relocs_count, relocs_nth}
use Rattle.glk_keys.specs.Rows.{Row}
use Rattle.glk_keys.proofs.rows.Rows.reloc.Goals as goal

pub reloc-requires-clause-index : goal.reloc-requires-clause-index
reloc-requires-clause-index c =
    let count = relocs_count c.args.self.now c.args.id.0 c.definition-at.result.object c.definition-at.result.index c.object.result.now c.object.ensures.value c.definition-at.ensures.row c.requires.definition in
    let h = c.requires.index in
    omega arith

pub returns-clause-value : goal.returns-clause-value
returns-clause-value c =
    let count = relocs_count c.args.self.now c.args.id.0 c.definition-at.result.object c.definition-at.result.index c.object.result.now c.object.ensures.value c.definition-at.ensures.row c.requires.definition in
    let h = c.requires.index in
    c.reloc.ensures.value ∙ sym (relocs_nth c.args.self.now c.args.id.0 c.definition-at.result.object c.definition-at.result.index c.object.result.now c.object.ensures.value c.definition-at.ensures.row c.requires.definition c.args.k (omega arith))

pub returns-clause-target : goal.returns-clause-target
returns-clause-target c =
    let P : List ℕ → Type 0 = λ o. IsTarget o (ref_view c.reloc.result.target) in
    subst P (sym (object_is c.args.self.now c.args.id.0 c.definition-at.result.object c.definition-at.result.index c.object.result.now c.object.ensures.value c.definition-at.ensures.row c.requires.definition)) c.reloc.ensures.target

pub returns-clause-within : goal.returns-clause-within
returns-clause-within c =
    let P : Row → Type 0 = λ r. HasFieldWithin r.symbol (reloc_view c.reloc.result) in
    subst P (sym (row_is c.args.self.now c.args.id.0 c.definition-at.result.object c.definition-at.result.index c.object.result.now c.object.ensures.value c.definition-at.ensures.row c.requires.definition)) c.reloc.ensures.within
