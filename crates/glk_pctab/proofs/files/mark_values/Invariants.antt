use Rattle.std.proofs.Common.{◌≡◌, ℕ, cond, get_or, true, false}
use Rattle.glk_pcval.specs.Steps.{ranges_left}
use Rattle.glk_pcval.specs.Table.{ranges}
use Rattle.glk_pctab.specs.Functions.{entries_of}
use Rattle.glk_pctab.specs.Section.{is_number_among}
use Rattle.glk_pctab.proofs.files.mark_values.Given as goal

abbrev pub invariant-loop-value : goal.invariant-loop-value
invariant-loop-value l = record {
  marks : (k : ℕ) → cond (get_or l.named k false) true (is_number_among (entries_of l.first l.count (ranges_left l.value-iterator)) k)
      ≡ cond (get_or l.fn.named k false) true (is_number_among (entries_of l.first l.count (ranges l.table)) k);
}
