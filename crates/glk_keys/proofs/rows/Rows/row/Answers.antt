use Rattle.std.proofs.Common.{◌-◌, ◌≤◌, sym, ap, ◌∙◌, arith}
use Rattle.std.specs.List.{sum_by}
use Rattle.glk_arena.specs.World.{objects_of}
use Rattle.glk_obj.specs.Records.{symbols}
use Rattle.glk_keys.specs.RowLaws.{all_rows, row_of_own}
use Rattle.glk_keys.specs.Rows.{Row}
use Rattle.glk_keys.proofs.rows.Rows.row.Goals as goal

pub own-requires : goal.own-requires
own-requires c =
    let a = all_rows c.args.self.now in
    let b = c.of_objects-of_objects.ensures.value in
    let e = c.if-id-of_objects.false in
    let h = c.requires in
    omega arith

pub returns-else-id-of_objects : goal.returns-else-id-of_objects
returns-else-id-of_objects c =
    let p = c.args.self.now in
    let b = c.of_objects-of_objects.ensures.value in
    let e = c.if-id-of_objects.false in
    let low : sum_by symbols (objects_of p.world) ≤ c.args.id.0 = omega arith in
    c.own.ensures ∙ ap (λ (r : Row). r.symbol) (sym (row_of_own p c.args.id.0 (c.args.id.0 - c.of_objects-of_objects.result) low c.requires (ap (λ k. c.args.id.0 - k) b)))
