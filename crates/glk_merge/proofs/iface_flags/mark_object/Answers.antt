use Rattle.std.proofs.Common.{◌<◌, length, false, get_or, arith, ap, ◌∙◌}
use Rattle.std.specs.Prelude.{◌||◌}
use Rattle.glk_merge.proofs.MarkLaws.{mark_more}
use Rattle.glk_merge.specs.Marks.{object_marks}
use Rattle.glk_merge.proofs.iface_flags.mark_object.Goals as goal

pub loop-i-preserved : goal.loop-i-preserved
loop-i-preserved c = λ k h.
    let here : k < length c.loop-i.flags = omega arith in
    mark_more (get_or c.args.flags.now k false) (get_or c.loop-i.flags k false) (get_or c.mark.new.flags k false) (object_marks c.args.rows.now k c.args.n) c.loop-i.i (c.loop-i.invariant k h)
    (c.mark.ensures k here ∙ ap (λ b. get_or c.loop-i.flags k false || b) (c.marked_by_flags.ensures k))
