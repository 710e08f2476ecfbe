use Rattle.std.proofs.Common.{◌≡◌, ◌<◌, ◌∙◌, length, get_or, ap, sym, arith}
use Rattle.std.proofs.lemmas.List.{get_or_default}
use Rattle.glk_order.specs.Chains.{last_edge, stored_edge}
use Rattle.glk_order.proofs.StoredChains.{small_edge}
use Rattle.glk_order.proofs.chains.Chains.before.Goals as goal

pub returns : goal.returns
returns c = λ task own.
    let chains = c.args.self.now in
    let size : length chains.befores.items ≡ length chains.edges.now = chains.one_before_each in
    let inside : c.args.edge < length chains.edges.now = c.requires in
    let within : c.args.edge < length chains.befores.items = omega (arith, size, inside) in
    let read : c.index.result.now ≡ get_or chains.befores.items c.args.edge 0 = c.index.ensures ∙ get_or_default chains.befores.items c.args.edge _ 0 within in
    c.some_edge.ensures (last_edge chains.end chains.edges.now task c.args.edge)
    (read ∙ chains.edges_before c.args.edge inside ∙ ap (λ t. stored_edge (last_edge chains.end chains.edges.now t c.args.edge)) (sym own))
    (small_edge chains.end chains.edges.now task c.args.edge (omega (arith, inside)) chains.few)
