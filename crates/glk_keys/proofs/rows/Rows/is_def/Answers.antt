use Rattle.std.proofs.Common.{ℕ, List, ◌-◌, ◌≤◌, sym, ap, ◌∙◌, refl, arith}
use Rattle.glk_arena.specs.World.{symbol_count}
use Rattle.glk_keys.specs.RowLaws.{row_of_own}
use Rattle.glk_keys.specs.Rows.{Row, is_definition, is_from_definition, origin_at}
use Rattle.glk_keys.proofs.rows.Rows.is_def.Goals as goal

pub returns-then-id-of_objects : goal.returns-then-id-of_objects
returns-then-id-of_objects c =
    c.is_definition_in.ensures
    ∙ ap (λ (b : List ℕ). is_from_definition (origin_at b c.place-at.result.index)) c.object.ensures.value
    ∙ ap (λ (r : Row). is_definition r) (sym c.place-at.ensures.row)

pub returns-else-id-of_objects : goal.returns-else-id-of_objects
returns-else-id-of_objects c =
    let p = c.args.self.now in
    let b = c.of_objects.ensures.value in
    let e = c.if-id-of_objects.false in
    let low : symbol_count p.world ≤ c.args.id.0 = omega arith in
    sym (ap is_definition (row_of_own p c.args.id.0 (c.args.id.0 - symbol_count p.world) low c.requires refl))
