use Rattle.std.proofs.Common.{◌<◌, sym, arith}
use Rattle.glk_keys.proofs.Clashing.{first_clash_is, no_clash}
use Rattle.glk_keys.specs.Rows.{row_count}
use Rattle.glk_merge.specs.Clashes.{clash_view}
use Rattle.glk_merge.proofs.clash.first_clash.Goals as goal

pub returns-in-Some-clause-value : goal.returns-in-Some-clause-value
returns-in-Some-clause-value c =
    let p = c.args.rows.now in
    let inside : c.loop-id.id < row_count p = omega arith in
    sym (first_clash_is p c.loop-id.id (clash_view c.in-Some.clash) inside (sym c.in-Some.ensures.value) c.loop-id.invariant)

pub returns-clause-value : goal.returns-clause-value
returns-clause-value c =
    let p = c.args.rows.now in
    sym (no_clash p (λ q h. c.loop-id.invariant q (omega arith)))
