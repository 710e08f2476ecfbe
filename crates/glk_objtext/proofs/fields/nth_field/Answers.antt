use Rattle.std.proofs.Common.{refl, arith, ◌≡◌, length}
use Rattle.glk_objtext.specs.Fields.{is_between}
use Rattle.glk_objtext.proofs.FieldSteps.{nth_here, nth_step, nth_last, nth_none, began}
use Rattle.glk_objtext.proofs.fields.nth_field.Goals as goal

pub returns-then-before-ended : goal.returns-then-before-ended
returns-then-before-ended c = nth_here _ _ _ _ _ _ _ _ _ c.loop-i-test.true refl c.after-next.ensures c.ended-ended.ensures c.if-before-ended.true c.loop-i.invariant.same

pub loop-i-preserved : goal.loop-i-preserved
loop-i-preserved c = record {
  started = began (is_between c.loop-i.mode) _ _ _ c.start-start.ensures c.loop-i.invariant.started;
  same = nth_step _ _ _ _ _ _ _ _ _ _ c.loop-i-test.true refl c.after-next.ensures c.loop-i.invariant.started c.ended-ended.ensures c.if-before-ended.false c.start-start.ensures c.loop-i.invariant.same;
}

pub returns-then-before-ended-2 : goal.returns-then-before-ended-2
returns-then-before-ended-2 c =
    let last : c.loop-i.i ≡ length c.args.line.now = omega arith in
    nth_last _ _ _ _ _ _ _ last c.ended.ensures c.if-before-ended-2.true c.loop-i.invariant.same

pub returns-else-before-ended-2 : goal.returns-else-before-ended-2
returns-else-before-ended-2 c =
    let last : c.loop-i.i ≡ length c.args.line.now = omega arith in
    nth_none _ _ _ _ _ _ _ last c.ended.ensures c.if-before-ended-2.false c.loop-i.invariant.same
