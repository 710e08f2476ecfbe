use Rattle.std.proofs.Common.{refl, Err, sym, subst}
use Rattle.glk_cause.specs.declared.cause.Cause.{Cause}
use Rattle.glk_cause.specs.Chain.{stops, goes_on, fails, holds, gives}
use Rattle.glk_link.specs.Passes.{Reaches}
use Rattle.glk_link.specs.Outputs.{kept_of}
use Rattle.glk_link.proofs.Derivations.{IsReached-entry}
use Rattle.glk_link.proofs.link_packages.reach_from.Goals as goal

pub returns-in-None-clause-reached : goal.returns-in-None-clause-reached
returns-in-None-clause-reached c =
    let P : Cause → Type 0 = λ r. Reaches c.args.entry.now c.args.world.now (Err r) in
    subst P (sym c.in_ok-no_entry-in-None.ensures) (stops _ (fails (λ has. c.in-None.ensures.none has.0 has.1)))

pub returns-clause-start : goal.returns-clause-start
returns-clause-start c = c.in_ok-kept.ensures.kept.whole c.in-Some.start (IsReached-entry c.in-Some.start c.in-Some.ensures.found.is_entry)

pub returns-clause-reached : goal.returns-clause-reached
returns-clause-reached c =
    goes_on c.args.world.now _ (holds (c.in-Some.start, c.in-Some.ensures.found.is_entry))
    (gives (kept_of c.args.world.now (record { start = c.in-Some.start; kept = c.in_ok-kept.kept })) (record { packages = refl; start = c.in-Some.ensures.found; kept = c.in_ok-kept.ensures.kept }))
