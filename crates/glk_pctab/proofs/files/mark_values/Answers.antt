use Rattle.std.proofs.Common.{◌≡◌, subst, rules, ℤ}
use Rattle.std.specs.Int.{cast_signed, cast_unsigned, w32}
use Rattle.glk_pctab.specs.Functions.{entry_of}
use Rattle.glk_pctab.proofs.FileSteps.{Marks, value_next, value_end}
use Rattle.glk_pctab.proofs.files.mark_values.Goals as goal

pub loop-value-preserved : goal.loop-value-preserved
loop-value-preserved c =
    let whole : cast_signed w32 (cast_unsigned w32 c.in-Some.value) ≡ c.in-Some.value = search rules in
    let marks = subst (λ (v : ℤ). Marks c.loop-value.named (entry_of c.args.first c.args.count v) c.mark_value.new.named) whole c.mark_value.ensures in
    record {
      marks = value_next c.loop-value.named c.mark_value.new.named c.args.named.now c.args.first c.args.count c.in-Some._end c.in-Some.value _ _ _ c.in-Some.ensures.steps marks c.loop-value.invariant.marks;
    }

pub returns : goal.returns
returns c = value_end c.loop-value.named c.args.named.now c.args.first c.args.count _ _ c.in-None.ensures.steps.0 c.loop-value.invariant.marks
