use Rattle.std.proofs.Common.{◌≤◌, List, sym, subst, arith}
use Rattle.glk_arena.specs.World.{Package, objects_of}
use Rattle.glk_link.specs.World.{rows, row_limit}
use Rattle.glk_link.proofs.WorldSteps.{kept_few}
use Rattle.glk_link.proofs.link_packages.report.Goals as goal

pub definitions_of-requires : goal.definitions_of-requires
definitions_of-requires c =
    let P : List Package → Type 0 = λ w. rows (objects_of w) ≤ row_limit in
    subst P (sym c.loaded-2.ensures) c.requires.rows

pub overflow_cast-result : goal.overflow_cast-result
overflow_cast-result c =
    let few = kept_few c.args.world.now c.args.kept.now c.requires.rising c.requires.range in
    omega (arith, few, c.requires.rows)
