use Rattle.std.proofs.Common.{◌≡◌, ◌<◌, ℕ, List, false, get_or}
use Rattle.std.specs.Str.{bytes_eq}
use Rattle.glk_io.proofs.paths.index_of.Given as goal

abbrev pub invariant-loop-i : goal.invariant-loop-i
invariant-loop-i l = (k : ℕ) (d : List ℕ × List ℕ) → k < l.i → bytes_eq l.path (get_or l.files k d).0 ≡ false
