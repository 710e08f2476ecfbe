use Rattle.std.proofs.Common.{ℕ, ◌<◌, length, sym, subst}
use Rattle.glk_arena.specs.World.{objects_of}
use Rattle.glk_merge.proofs.RowBounds.{definition_object}
use Rattle.glk_init_lists.proofs.refusals.awaited_name.Goals as goal

pub target_name-requires-clause-object : goal.target_name-requires-clause-object
target_name-requires-clause-object c =
    let p = c.args.merged.now.program in
    let P : ℕ → Type 0 = λ n. n < length (objects_of p.world) in
    subst P (sym c.owner.ensures.object) (definition_object p c.in-Some.id.0 c.in-Some.ensures.definition)
