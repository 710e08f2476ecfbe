use Rattle.std.proofs.Common.{◌≡◌, ℕ, ◌-◌, List, ap, ◌∙◌}
use Rattle.glk_arena.specs.World.{objects_of}
use Rattle.glk_base.specs.Groups.{group_of, group_start}
use Rattle.glk_obj.specs.Records.{symbols}
use Rattle.glk_keys.specs.Programs.{Program}
use Rattle.glk_keys.specs.RowLaws.{row_of_object}
use Rattle.glk_keys.proofs.rows.Rows.place.Goals as goal

pub returns-clause-row : goal.returns-clause-row
returns-clause-row c =
    let p : Program = c.args.self.now in
    let same : c.self.inside.objects ≡ objects_of p.world = c.self.invariant.objects_are ∙ ap (λ (q : Program). objects_of q.world) c.self.view_is in
    let object = c.symbol.ensures.object ∙ ap (λ (o : List (List ℕ)). group_of symbols o c.args.id) same in
    let index = c.symbol.ensures.index ∙ ap (λ (o : List (List ℕ)). c.args.id - group_start symbols o c.symbol.result.object) same in
    row_of_object p c.args.id c.symbol.result.object c.symbol.result.index c.requires object index
