use Rattle.std.proofs.Common.{◌<◌, length, false, get_or, arith, ap, ◌∙◌}
use Rattle.std.specs.Prelude.{◌||◌}
use Rattle.glk_merge.proofs.MarkLaws.{mark_more}
use Rattle.glk_merge.specs.Marks.{row_marks}
use Rattle.glk_merge.proofs.iface_flags.mark_rows.Goals as goal

pub loop-id-preserved : goal.loop-id-preserved
loop-id-preserved c = λ k h.
    let here : k < length c.loop-id.flags = omega arith in
    mark_more (get_or c.args.flags.now k false) (get_or c.loop-id.flags k false) (get_or c.mark.new.flags k false) (row_marks c.args.rows.now k) c.loop-id.id (c.loop-id.invariant k h)
    (c.mark.ensures k here ∙ ap (λ b. get_or c.loop-id.flags k false || b) (c.marked_by_row.ensures k))
