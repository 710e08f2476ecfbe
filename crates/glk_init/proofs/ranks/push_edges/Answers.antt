use Rattle.std.proofs.Common.{◌≡◌, ◌∙◌, ◌++◌, ℕ, List, [], None, ap, get_or, take, sym}
use Rattle.std.specs.List.{cons_option, filter_map}
use Rattle.std.proofs.lemmas.List.{append_assoc}
use Rattle.glk_order.specs.declared.edges.Edge.{Edge}
use Rattle.glk_init.specs.declared.program.InitEdge.{InitEdge}
use Rattle.glk_init.specs.Ranks.{rank_edges}
use Rattle.glk_init.proofs.ListLemmas.{filter_map_more, rank_edges-append}
use Rattle.glk_init.proofs.ranks.push_edges.Goals as goal

pub loop-edge-preserved : goal.loop-edge-preserved
loop-edge-preserved c =
    let d : InitEdge = record { relocation = 0; target = None } in
    let i : ℕ = c.loop-edge.edge-index in
    let xs : List InitEdge = c.args.targets.now in
    let f : List ℕ → List Edge = rank_edges c.args.ranks.now c.args.rank in
    let e : c.push_target.new.edges.items ≡ c.loop-edge.edges.items ++ f (cons_option (get_or xs i d).target []) = c.in_ok-push_target.ensures.value in
    let more = ap f (filter_map_more (λ x. x.target) xs i d c.loop-edge-test.true) ∙ rank_edges-append c.args.ranks.now c.args.rank (filter_map (λ x. x.target) (take i xs)) (cons_option (get_or xs i d).target []) in (
      e ∙ ap (λ ys. ys ++ f (cons_option (get_or xs i d).target [])) c.loop-edge.invariant.0
          ∙ append_assoc c.args.edges.now.items (f (filter_map (λ x. x.target) (take i xs))) (f (cons_option (get_or xs i d).target []))
          ∙ ap (λ ys. c.args.edges.now.items ++ ys) (sym more),
      c.in_ok-push_target.ensures.few,
    )
