use Rattle.std.proofs.Common.{◌≡◌, ℕ, ◌<◌, get_or, length, false}
use Rattle.std.specs.Prelude.{◌||◌}
use Rattle.glk_keys.specs.Interfaces.{is_marked_in}
use Rattle.glk_merge.specs.Marks.{some_below}
use Rattle.glk_merge.proofs.iface_flags.mark_objects.Given as goal

abbrev pub invariant-loop-n : goal.invariant-loop-n
invariant-loop-n l = (k : ℕ) → k < length l.fn.flags → get_or l.flags k false ≡ (get_or l.fn.flags k false || some_below (is_marked_in l.rows k) l.n)
