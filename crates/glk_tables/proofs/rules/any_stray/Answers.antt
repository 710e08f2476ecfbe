use Rattle.std.proofs.Common.{◌≡◌, ◌∙◌, false, sym, ap, arith, rules}
use Rattle.std.specs.Prelude.{not}
use Rattle.glk_obj.specs.FuncInfos.{Node, node_count, node_at}
use Rattle.glk_obj.specs.References.{in_range}
use Rattle.glk_tables.proofs.ChainLemmas.{any_passes, any_fails}
use Rattle.glk_tables.proofs.rules.any_stray.Goals as goal

pub returns-then-not-in_range : goal.returns-then-not-in_range
returns-then-not-in_range c =
    let same = ap (λ (n : Node). n.func) c.node.ensures in
    let stray : c.in_range.result ≡ false = search rules in
    let here = ap (λ r. not (in_range c.args.object.now r)) (sym same) ∙ ap not (sym c.in_range.ensures.value ∙ stray) in
    sym (any_passes (λ k. not (in_range c.args.object.now (node_at c.args.info.now k).func)) (node_count c.args.info.now) c.loop-k.k (omega arith) here)

pub returns : goal.returns
returns c =
    sym (any_fails (λ k. not (in_range c.args.object.now (node_at c.args.info.now k).func)) (node_count c.args.info.now) (λ k below. ap not (c.loop-k.invariant k (omega arith))))
