use Rattle.std.proofs.Common.{◌<◌, length, false, get_or, arith}
use Rattle.glk_merge.proofs.MarkLaws.{mark_more}
use Rattle.glk_keys.specs.Interfaces.{is_marked_in}
use Rattle.glk_merge.proofs.iface_flags.mark_objects.Goals as goal

pub loop-n-preserved : goal.loop-n-preserved
loop-n-preserved c = λ k h.
    let here : k < length c.loop-n.flags = omega arith in
    mark_more (get_or c.args.flags.now k false) (get_or c.loop-n.flags k false) (get_or c.mark_object.new.flags k false) (is_marked_in c.args.rows.now k) c.loop-n.n (c.loop-n.invariant k h) (c.mark_object.ensures k here)
