use Rattle.std.proofs.Common.{◌≡◌, ◌*◌, ◌<◌, ◌≤◌, ℕ, length, get_or}
use Rattle.glk_obj.specs.NulIndex.{IsNextNul}
use Rattle.glk_obj.proofs.nul_index.fill_nul_index.Given as goal

abbrev pub invariant-loop-end : goal.invariant-loop-end
invariant-loop-end l = record {
  inside : l.end ≤ length l.bytes;
  same : length l.table ≡ length l.fn.table;
  next : IsNextNul l.bytes l.end l.next;
  each : (k : ℕ) → l.end ≤ k * l.width → k * l.width < length l.bytes → IsNextNul l.bytes (k * l.width) (get_or l.table k 0);
}

abbrev pub decreases-loop-end : goal.decreases-loop-end
decreases-loop-end l = l.end
