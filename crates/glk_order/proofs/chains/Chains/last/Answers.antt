use Rattle.std.proofs.Common.{◌≡◌, ◌∙◌, length, get_or, arith}
use Rattle.std.proofs.lemmas.List.{get_or_default}
use Rattle.glk_order.specs.Chains.{last_edge}
use Rattle.glk_order.proofs.StoredChains.{small_edge}
use Rattle.glk_order.proofs.chains.Chains.last.Goals as goal

pub returns : goal.returns
returns c =
    let chains = c.args.self.now in
    let read : c.index.result.now ≡ get_or chains.lasts.items c.args.task 0 = c.index.ensures ∙ get_or_default chains.lasts.items c.args.task _ 0 c.requires in
    c.some_edge.ensures (last_edge chains.end chains.edges.now c.args.task (length chains.edges.now)) (read ∙ chains.last_edges c.args.task c.requires)
    (small_edge chains.end chains.edges.now c.args.task (length chains.edges.now) (omega arith) chains.few)
