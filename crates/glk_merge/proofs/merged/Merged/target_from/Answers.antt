use Rattle.std.proofs.Common.{ℕ, ◌<◌, length, sym, subst}
use Rattle.glk_arena.specs.World.{objects_of}
use Rattle.glk_merge.proofs.RowBounds.{definition_object}
use Rattle.glk_merge.proofs.merged.Merged.target_from.Goals as goal

pub target-requires : goal.target-requires
target-requires c =
    let p = c.args.self.now.program in
    let P : ℕ → Type 0 = λ n. n < length (objects_of p.world) in
    subst P (sym c.owner.ensures.object) (definition_object p c.args.id.0 c.requires)
