use Rattle.std.proofs.Common.{◌≡◌, ◌<◌, ◌-◌, ℕ, length, get_or}
use Rattle.glk_tables.specs.Chains.{HasLength, AreLengths}
use Rattle.glk_tables.proofs.calls.note_lengths.Given as goal

abbrev pub invariant-loop-steps : goal.invariant-loop-steps
invariant-loop-steps l = record {
  inside : l.at < length l.callers;
  left : HasLength l.callers (l.total - l.steps) l.at;
  lengths : AreLengths l.callers l.lengths;
  stay : (j : ℕ) → 0 < get_or l.fn.lengths j 0 → 0 < get_or l.lengths j 0;
  first : l.steps ≡ 0 → l.at ≡ l.from;
  later : 0 < l.steps → 0 < get_or l.lengths l.from 0;
}
