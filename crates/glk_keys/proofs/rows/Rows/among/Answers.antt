use Rattle.std.proofs.Common.{ℕ, ◌+◌, ap, arith}
use Rattle.glk_arena.specs.World.{objects_of}
use Rattle.glk_base.proofs.Groups.{lt_true}
use Rattle.glk_keys.proofs.ReferentLaws.{symbols_within}
use Rattle.glk_keys.specs.RowLaws.{all_rows}
use Rattle.glk_keys.specs.Rows.{row_in_object}
use Rattle.glk_keys.specs.Targets.{row, row_among}
use Rattle.glk_keys.proofs.rows.Rows.among.Goals as goal

pub overflow_add-result-then-index-range : goal.overflow_add-result-then-index-range
overflow_add-result-then-index-range c =
    let p = c.args.self.now in
    let within = symbols_within (objects_of p.world) c.args.n c.requires.object in
    let small = c.of_objects-rows.ensures.small in
    let first = c.first_row-first.ensures in
    let range = c.requires.range in
    let index = c.if-index-range.true in
    omega arith

pub returns-then-index-range-clause-row : goal.returns-then-index-range-clause-row
unfolding row_among row_in_object
returns-then-index-range-clause-row c =
    rw (lt_true c.args.index c.args.range.size c.if-index-range.true) (ap (λ (first : ℕ). row (first + (c.args.range.first + c.args.index))) c.first_row-first.ensures)

pub returns-then-index-range-clause-within : goal.returns-then-index-range-clause-within
returns-then-index-range-clause-within c =
    let p = c.args.self.now in
    let within = symbols_within (objects_of p.world) c.args.n c.requires.object in
    let all = all_rows p in
    let first = c.first_row-first.ensures in
    let range = c.requires.range in
    let index = c.if-index-range.true in
    omega arith
