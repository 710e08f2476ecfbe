use Rattle.std.proofs.Common.{◌≡◌, ◌∙◌, ◌++◌, ◌∷◌, ℕ, List, [], None, ap, ◌+◌, get_or, take, map, sym}
use Rattle.std.specs.List.{filter_map}
use Rattle.std.proofs.lemmas.List.{append_assoc, map-append}
use Rattle.glk_closure.specs.Graph.{Effect, Keeps}
use Rattle.glk_closure.specs.Views.{effect_view}
use Rattle.glk_init.specs.declared.program.InitEdge.{InitEdge}
use Rattle.glk_init.proofs.ListLemmas.{filter_map_more}
use Rattle.glk_init.proofs.reached.push_targets.Goals as goal

pub loop-edge-preserved : goal.loop-edge-preserved
loop-edge-preserved c =
    let d : InitEdge = record { relocation = 0; target = None } in
    let i : ℕ = c.loop-edge.edge-index in
    let xs : List InitEdge = c.args.edges.now in
    let one : List ℕ = filter_map (λ e. e.target) (get_or xs i d ∷ []) in
    let before : List Effect = map effect_view c.args.out.now.items in
    let e : map effect_view c.push_target.new.out.items ≡ map effect_view c.loop-edge.out.items ++ map Keeps one = c.in_ok-push_target.ensures in
    let taken : List ℕ = filter_map (λ x. x.target) (take i xs) in
    let more : map Keeps (filter_map (λ x. x.target) (take (i + 1) xs)) ≡ map Keeps taken ++ map Keeps one = ap (map Keeps) (filter_map_more (λ x. x.target) xs i d c.loop-edge-test.true) ∙ map-append Keeps taken one in
    e ∙ ap (λ ys. ys ++ map Keeps one) c.loop-edge.invariant ∙ append_assoc before (map Keeps taken) (map Keeps one) ∙ ap (λ ys. before ++ ys) (sym more)
