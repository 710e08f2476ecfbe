use Rattle.std.proofs.Common.{refl}
use Rattle.glk_objtext.specs.Fields.{is_between}
use Rattle.glk_objtext.proofs.FieldSteps.{count_step, count_end, few_step}
use Rattle.glk_objtext.proofs.fields.count_fields.Goals as goal

pub loop-b-preserved : goal.loop-b-preserved
loop-b-preserved c = record {
  few = few_step (is_between c.loop-b.mode) (is_between c.after-next.result) _ _ _ c.loop-b.invariant.few c.ended-count.ensures;
  same = count_step _ _ _ _ _ _ _ _ c.loop-b-test.true refl c.after-next.ensures c.ended-count.ensures c.loop-b.invariant.same;
}

pub returns : goal.returns
returns c = rw c.ended.ensures (count_end _ _ _ _ _ c.loop-b-test.false c.loop-b.invariant.same)
