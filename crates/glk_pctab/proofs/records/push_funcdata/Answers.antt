use Rattle.std.proofs.Common.{arith, ◌∙◌}
use Rattle.glk_pctab.specs.Functions.{funcdata_of}
use Rattle.glk_pctab.specs.Views.{function_view}
use Rattle.glk_frames.specs.Image.{no_funcdata}
use Rattle.std.proofs.lemmas.List.{get_or_default}
use Rattle.glk_pctab.proofs.RecordSteps.{u32_next, u32_last}
use Rattle.glk_pctab.proofs.records.push_funcdata.Goals as goal

pub loop-k-preserved : goal.loop-k-preserved
loop-k-preserved c =
    let ds = funcdata_of c.args.tree (function_view c.args.function.now) in
    let count = c.funcdata_count-k-end.ensures c.args.tree in
    u32_next c.loop-k.out.items c.push_fields.new.out.items ds c.loop-k.k c.funcdata_at.result _ (omega (arith, count))
    (c.funcdata_at.ensures ∙ get_or_default ds c.loop-k.k no_funcdata 0 (omega (arith, count)))
    c.in_ok-push_fields.ensures.whole c.loop-k.invariant

pub returns : goal.returns
returns c =
    let count = c.funcdata_count-k-end.ensures c.args.tree in
    u32_last c.loop-k.out.items (funcdata_of c.args.tree (function_view c.args.function.now)) c.loop-k.k _ (omega (arith, count)) c.loop-k.invariant
