use Rattle.std.proofs.Common.{ℕ, ◌<◌, ◌∙◌, length, sym, ap, subst}
use Rattle.glk_arena.specs.World.{objects_of}
use Rattle.glk_keys.specs.Rows.{object_at}
use Rattle.glk_merge.proofs.RowBounds.{definition_object}
use Rattle.glk_functions.proofs.tables.object_of.Goals as goal

pub object-requires : goal.object-requires
object-requires c =
    let p = c.args.merged.now.program in
    let P : ℕ → Type 0 = λ n. n < length (objects_of p.world) in
    subst P (sym c.owner.ensures.object) (definition_object p c.args.id.0 c.requires)

pub returns : goal.returns
returns c = let p = c.args.merged.now.program in c.object.ensures.value ∙ ap (λ n. object_at p n) c.owner.ensures.object
