use Rattle.std.proofs.Common.{◌∙◌}
use Rattle.glk_pctab.specs.Views.{view}
use Rattle.glk_pcln.proofs.Starts.{apart_by, few_by, made_all}
use Rattle.glk_pcln.proofs.pieces.write_findfunctab.Goals as goal

pub push_findfunctab-requires-clause-few : goal.push_findfunctab-requires-clause-few
push_findfunctab-requires-clause-few c =
    few_by (view c.args.t.now) c.deref.result.now (c.deref.ensures.value ∙ c.in_ok-starts.ensures) c.requires.short

pub push_findfunctab-requires-clause-apart : goal.push_findfunctab-requires-clause-apart
push_findfunctab-requires-clause-apart c =
    apart_by (view c.args.t.now) c.deref.result.now (c.deref.ensures.value ∙ c.in_ok-starts.ensures) c.requires.apart

pub returns : goal.returns
returns c =
    made_all (view c.args.t.now) c.deref.result.now c.new-out.result.items c.push_findfunctab.new.out.items
    (c.deref.ensures.value ∙ c.in_ok-starts.ensures) c.new-out.ensures.items c.in_ok-push_findfunctab.ensures
