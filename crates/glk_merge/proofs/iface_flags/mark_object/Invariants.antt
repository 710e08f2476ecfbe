use Rattle.std.proofs.Common.{◌≡◌, ℕ, ◌<◌, get_or, length, false}
use Rattle.std.specs.Prelude.{◌||◌}
use Rattle.glk_merge.specs.Marks.{some_below, object_marks}
use Rattle.glk_merge.proofs.iface_flags.mark_object.Given as goal

abbrev pub invariant-loop-i : goal.invariant-loop-i
invariant-loop-i l = (k : ℕ) → k < length l.fn.flags → get_or l.flags k false ≡ (get_or l.fn.flags k false || some_below (object_marks l.rows k l.n) l.i)
