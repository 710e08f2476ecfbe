use Rattle.std.proofs.Common.{◌≡◌, pos}
use Rattle.glk_pcval.specs.Table.{value_in, value_of}
use Rattle.glk_pcval.specs.Steps.{ranges_left}
use Rattle.glk_pcval.proofs.steps.value_at.Given as goal

abbrev pub invariant-loop-value : goal.invariant-loop-value
invariant-loop-value l = record {
  can : (goal.iterator-loop-value).can_next l.value-iterator;
  finite : (goal.iterator-loop-value).is_finite l.value-iterator;
  same : value_in (ranges_left l.value-iterator) l.off ≡ value_of l.table (pos l.off);
}
