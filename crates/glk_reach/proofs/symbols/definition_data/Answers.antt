use Rattle.std.proofs.Common.{ℕ, List, ◌<◌, ◌≤◌, length, sym, ap, ◌∙◌, subst}
use Rattle.glk_arena.specs.World.{objects_of}
use Rattle.glk_obj.specs.Blocks.{count, contents}
use Rattle.glk_obj.specs.Object.{IsObject}
use Rattle.glk_keys.specs.Rows.{object_at, row_at}
use Rattle.glk_merge.proofs.RowBounds.{definition_object}
use Rattle.glk_reach.proofs.Contents.{content_within}
use Rattle.glk_reach.proofs.symbols.definition_data.Goals as goal

pub object-requires : goal.object-requires
object-requires c =
    let p = c.args.merged.now.program in
    let P : ℕ → Type 0 = λ n. n < length (objects_of p.world) in
    subst P (sym c.owner.ensures.object) (definition_object p c.args.id.0 c.requires)

pub data_below-requires-clause-all : goal.data_below-requires-clause-all
data_below-requires-clause-all c =
    let p = c.args.merged.now.program in
    let r = c.args.id.0 in
    let is = c.object.ensures.value ∙ ap (λ n. object_at p n) c.owner.ensures.object in
    let P : List ℕ → Type 0 = λ b. IsObject b in
    let Q : ℕ → Type 0 = λ n. length (row_at p r).content ≤ n in
    subst Q (sym (c.count.ensures.value ∙ ap (λ b. count b contents) is)) (content_within p r c.requires (subst P is c.object.ensures.object))
