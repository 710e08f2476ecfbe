use Rattle.std.proofs.Common.{◌<◌, ℕ, List, sym, subst}
use Rattle.std.specs.List.{All}
use Rattle.glk_keys.specs.Rows.{row_count}
use Rattle.glk_effects.proofs.Parts.{roots_in}
use Rattle.glk_effects.proofs.graph.ReachGraph.new.Goals as goal

pub invariant_of-result : goal.invariant_of-result
invariant_of-result c =
    let p = c.args.read.now.merged.now.program in
    let P : List ℕ → Type 0 = All (λ k. k < row_count p) in
    record {
      roots_are = c.in_ok-roots.ensures;
      within = subst P (sym c.in_ok-roots.ensures) (roots_in p c.args.tasks.now c.requires);
    }
