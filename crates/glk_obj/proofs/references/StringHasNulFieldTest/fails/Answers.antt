use Rattle.glk_obj.specs.References.{HoldsNul}
use Rattle.glk_obj.proofs.NulOffsets.{has_from_part, part_from_has}
use Rattle.glk_obj.proofs.references.StringHasNulFieldTest.fails.Goals as goal

pub returns : goal.returns
unfolding HoldsNul
returns c =
    let bytes = c.args.bytes.now in (
      λ yes_. rw c.text_range-from.ensures.text (part_from_has bytes _ _ c.text_range-from.ensures.order c.text_range-from.ensures.within (c.has_nul.ensures.0 yes_)),
      λ holds. c.has_nul.ensures.1 (has_from_part bytes _ _ c.text_range-from.ensures.order c.text_range-from.ensures.within (rw c.text_range-from.ensures.text at holds)),
    )
