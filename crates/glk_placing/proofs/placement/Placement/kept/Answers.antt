use Rattle.std.proofs.Common.{◌≡◌, ◌≤◌, ◌^◌, length, ap, subst}
use Rattle.std.specs.Prelude.{All}
use Rattle.glk_merge.specs.Mergings.{IsKey}
use Rattle.glk_placing.specs.Programs.{PlacedProgram}
use Rattle.glk_placing.proofs.placement.Placement.kept.Goals as goal

pub returns-clause-keys : goal.returns-clause-keys
returns-clause-keys c =
    let P : PlacedProgram → Type 0 = λ q. All (IsKey q.program) q.kept in
    subst P c.self.view_is c.self.invariant.keys

pub returns-clause-few : goal.returns-clause-few
returns-clause-few c =
    let P : PlacedProgram → Type 0 = λ q. length q.kept ≤ 2 ^ 24 in
    subst P c.self.view_is c.self.invariant.few
