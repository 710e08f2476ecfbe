use Rattle.std.proofs.Common.{◌≡◌}
use Rattle.glk_pcval.specs.Steps.{ranges_left}
use Rattle.glk_tables.specs.Rules.{any_outside, has_outside}
use Rattle.glk_tables.specs.Views.{target_view}
use Rattle.glk_tables.proofs.values.has_outside.Given as goal

abbrev pub invariant-loop-value : goal.invariant-loop-value
invariant-loop-value l = record {
  can : (goal.iterator-loop-value).can_next l.value-iterator;
  finite : (goal.iterator-loop-value).is_finite l.value-iterator;
  same : any_outside l.limit (ranges_left l.value-iterator) ≡ has_outside l.limit (target_view l.fn.target);
}
