use Rattle.std.proofs.Common.{◌-◌, ◌≤◌, sym, ap, arith}
use Rattle.std.specs.List.{sum_by}
use Rattle.glk_arena.specs.World.{objects_of}
use Rattle.glk_obj.specs.Records.{symbols}
use Rattle.glk_keys.specs.RowLaws.{row_of_own}
use Rattle.glk_keys.specs.Votes.{class_of}
use Rattle.glk_keys.proofs.rows.Rows.class.Goals as goal

pub returns-else-id-of_objects : goal.returns-else-id-of_objects
unfolding class_of
returns-else-id-of_objects c =
    let p = c.args.self.now in
    let b = c.of_objects.ensures.value in
    let e = c.if-id-of_objects.false in
    let low : sum_by symbols (objects_of p.world) ≤ c.args.id.0 = omega arith in
    ap class_of (sym (row_of_own p c.args.id.0 (c.args.id.0 - sum_by symbols (objects_of p.world)) low c.requires (omega arith)))
