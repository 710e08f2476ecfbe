use Rattle.std.proofs.Common.{arith, ap, ◌∙◌, ◌+◌, ◌≡◌, ◌<◌, ◌^◌}
use Rattle.glk_pctab.specs.Section.{next_multiple}
use Rattle.glk_pctab.specs.Building.{end_from}
use Rattle.glk_pctab.specs.Views.{functions_view}
use Rattle.glk_pctab.proofs.RecordSteps.{small_next, end_next, end_end, length_fits}
use Rattle.glk_pctab.proofs.records.records_size.Goals as goal

pub loop-rest-preserved : goal.loop-rest-preserved
loop-rest-preserved c =
    let fs = c.loop-rest.rest.now in
    let some = c.in-len1-up.len_at_least in
    let step = ap (λ n. n + c.record_length.result) c.next_multiple.ensures.value ∙ ap (λ n. next_multiple 8 c.loop-rest.at + n) c.record_length.ensures in
    let long : c.record_length.result < 2 ^ 19 = length_fits c.record_length.result fs _ some c.record_length.ensures c.loop-rest.invariant.small in
    record {
      small = small_next fs some c.loop-rest.invariant.small;
      room = omega (arith, c.next_multiple.ensures.near, long, c.loop-rest.invariant.room, some);
      end = end_next c.loop-rest.at (c.next_multiple.result + c.record_length.result) fs _ some step ∙ c.loop-rest.invariant.end;
    }

pub returns-clause-value : goal.returns-clause-value
returns-clause-value c =
    let e : c.loop-rest.at ≡ end_from c.loop-rest.at (functions_view c.loop-rest.rest.now) = end_end c.loop-rest.at c.loop-rest.rest.now c.in_default.len_below in
    e ∙ c.loop-rest.invariant.end
