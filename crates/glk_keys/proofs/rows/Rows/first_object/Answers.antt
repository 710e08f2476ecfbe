use Rattle.std.proofs.Common.{ap, ◌∙◌, arith}
use Rattle.glk_arena.specs.World.{object_count, first_object}
use Rattle.glk_keys.proofs.ReferentLaws.{first_inside, some_object}
use Rattle.glk_keys.specs.Programs.{Program}
use Rattle.glk_keys.proofs.rows.Rows.first_object.Goals as goal

pub returns-clause-inside : goal.returns-clause-inside
returns-clause-inside c =
    let world = c.args.self.now.world in
    let inside = first_inside world c.args.q (some_object (object_count world c.args.q) c.requires.some) in
    let value = c.first_object.ensures ∙ ap (λ (p : Program). first_object p.world c.args.q) c.self.view_is in
    omega (arith, value, inside)
