use Rattle.std.proofs.Common.{◌∙◌}
use Rattle.glk_placing.proofs.Placeable.{parts_placeable}
use Rattle.glk_placing.specs.Programs.{placed_program}
use Rattle.glk_placing.proofs.placement.place_program.Goals as goal

pub place-requires : goal.place-requires
place-requires c =
    let s = placed_program c.args.merged.now.program c.args.kept.now c.args.made c.args.tables in
    parts_placeable s c.deref.result.now c.made_list-list.result (c.deref.ensures.value ∙ c.in_ok-symbols.ensures {u = tt}) c.made_list-list.ensures c.requires.few c.requires.sizes
