use Rattle.std.proofs.Common.{arith, ap, ◌∙◌, ◌+◌, ◌≡◌, ◌<◌, ◌^◌, length, take, drop, ◌-◌}
use Rattle.glk_pctab.specs.Section.{next_multiple}
use Rattle.glk_pctab.specs.Building.{end_from}
use Rattle.glk_pctab.specs.Views.{functions_view}
use Rattle.glk_pctab.proofs.RecordSteps.{functab_next, functab_last_is, small_next, end_next, end_above, offset_fits, next_fits, on_ok}
use Rattle.glk_pctab.proofs.records.push_functab.Goals as goal

pub next_multiple-offset-requires : goal.next_multiple-offset-requires
next_multiple-offset-requires c = omega (arith, end_above c.loop-rest.at (functions_view c.loop-rest.rest.now), c.loop-rest.invariant.short)

pub overflow_cast-offset : goal.overflow_cast-offset
overflow_cast-offset c =
    let fits : next_multiple 8 c.loop-rest.at < 2 ^ 32 = offset_fits c.loop-rest.at (2 ^ 32) c.loop-rest.rest.now c.in-len1-up.len_at_least c.loop-rest.invariant.short in
    omega (arith, fits, c.next_multiple-offset.ensures.value)

pub overflow_add-at-in-len1-up : goal.overflow_add-at-in-len1-up
overflow_add-at-in-len1-up c =
    let fits : next_multiple 8 c.loop-rest.at + c.record_length.result < 2 ^ 32 = next_fits c.loop-rest.at c.record_length.result (2 ^ 32) c.loop-rest.rest.now _ c.in-len1-up.len_at_least c.record_length.ensures c.loop-rest.invariant.short in
    omega (arith, fits, c.next_multiple-offset.ensures.value)

pub loop-rest-preserved : goal.loop-rest-preserved
loop-rest-preserved c =
    let fs = c.loop-rest.rest.now in
    let some = c.in-len1-up.len_at_least in
    let step = ap (λ n. n + c.record_length.result) c.next_multiple-offset.ensures.value ∙ ap (λ n. next_multiple 8 c.loop-rest.at + n) c.record_length.ensures in
    let end : end_from (c.next_multiple-offset.result + c.record_length.result) (functions_view (take (length fs - 1) (drop 1 fs))) ≡ end_from c.loop-rest.at (functions_view fs) = end_next c.loop-rest.at (c.next_multiple-offset.result + c.record_length.result) fs _ some step in
    record {
      small = small_next fs some c.loop-rest.invariant.small;
      short = omega (arith, end, c.loop-rest.invariant.short);
      bytes = functab_next c.loop-rest.at (c.next_multiple-offset.result + c.record_length.result) c.next_multiple-offset.result c.args.size fs _ c.loop-rest.out.items c.push_fields.new.out.items _ some
          c.next_multiple-offset.ensures.value (ap (λ n. c.next_multiple-offset.result + n) c.record_length.ensures) c.in_ok-push_fields.ensures.whole c.loop-rest.invariant.bytes;
    }

pub returns : goal.returns
returns c = on_ok c.push_fields-2.result (λ pushed. functab_last_is c.loop-rest.at c.args.size c.loop-rest.rest.now c.loop-rest.out.items c.push_fields-2.new.out.items _ c.in_default.len_below pushed c.loop-rest.invariant.bytes) c.push_fields-2.ensures.whole
