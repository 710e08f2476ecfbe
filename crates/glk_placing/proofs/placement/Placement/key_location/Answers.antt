use Rattle.std.proofs.Common.{◌≡◌, ◌<◌, get_or, length, ap, arith}
use Rattle.std.proofs.lemmas.List.{get_or_read}
use Rattle.glk_keys.specs.Rows.{row_count}
use Rattle.glk_placing.proofs.IndexSteps.{index_found}
use Rattle.glk_placing.specs.Programs.{PlacedProgram}
use Rattle.glk_placing.proofs.placement.Placement.key_location.Goals as goal

pub kept_location-requires : goal.kept_location-requires
kept_location-requires c =
    let rows : row_count c.self.inside.merged.now.program ≡ row_count c.args.self.now.program = ap (λ (q : PlacedProgram). row_count q.program) c.self.view_is in
    let long : length c.self.inside.kept.now ≡ length c.args.self.now.kept = ap (λ (q : PlacedProgram). length q.kept) c.self.view_is in
    let key = c.requires in
    let lt : c.args.key < row_count c.self.inside.merged.now.program = omega (arith, rows, key) in
    let listed = c.self.invariant.indices_are.long in
    let read : c.index-index.result.now ≡ get_or c.self.inside.indices.items c.args.key 0 =
    get_or_read c.self.inside.indices.items c.args.key c.index-index.result.now (omega (arith, lt, listed)) c.index-index.ensures 0 in
    let found = index_found c.self.inside.kept.now (row_count c.self.inside.merged.now.program) c.self.inside.indices.items c.args.key c.index-index.result.now c.self.invariant.indices_are lt read c.if-index.false in
    omega (arith, found, long)
