use Rattle.std.proofs.Common.{ℕ, List, Err}
use Rattle.std.specs.Prelude.{Result}
use Rattle.glk_base.specs.declared.fault.Fault.{Fault}
use Rattle.glk_cause.specs.declared.cause.Cause.{Cause}
use Rattle.glk_cause.specs.Chain.{goes_on, Answers}
use Rattle.glk_cause.proofs.ChainLaws.{stopped, exits}
use Rattle.glk_arena.specs.World.{Package}
use Rattle.glk_link.specs.Passes.{Kept, HasPlainObjects, Reaches, FindsCallees, Keeps}
use Rattle.glk_link.specs.Outputs.{kept_of}
use Rattle.glk_link.specs.declared.link_packages.Reached.{Reached}
use Rattle.glk_link.proofs.PassSteps.{same_error, FromReach, on_objects, on_reached}
use Rattle.glk_link.proofs.link_packages.kept.Goals as goal

abbrev HasKept : List ℕ → List Package → Result Reached (Fault Cause) → Type 0
HasKept entry world r = Answers (Keeps entry world) (kept_of world) r

pub returns-in_err-check_objects-clause-keeps : goal.returns-in_err-check_objects-clause-keeps
returns-in_err-check_objects-clause-keeps c =
    let e = c.in_err-check_objects.field-0.0 in
    let world : List Package = c.args.world.now in
    exits (HasKept c.args.entry.now world) c.from_residual.result e c.from_residual.ensures.1
    (stopped HasPlainObjects (FromReach c.args.entry.now) world (kept_of world) (λ (done : Unit {0}). world) e c.in_err-check_objects.ensures)

pub returns-in_err-reached-clause-keeps : goal.returns-in_err-reached-clause-keeps
returns-in_err-reached-clause-keeps c =
    let e = c.in_err-reached.field-0.0 in
    let world : List Package = c.args.world.now in
    exits (HasKept c.args.entry.now world) c.from_residual-in_err-reached.result e c.from_residual-in_err-reached.ensures.1
    (on_objects c.args.entry.now world c.in_ok-check_objects.ensures (Err e)
    (stopped (Reaches c.args.entry.now) FindsCallees world (kept_of world) (kept_of world) e c.in_err-reached.ensures.reached))

pub returns-in_err-check_calls-clause-keeps : goal.returns-in_err-check_calls-clause-keeps
returns-in_err-check_calls-clause-keeps c =
    let e = c.in_err-check_calls.field-0.0 in
    let world : List Package = c.args.world.now in
    let k : Kept = kept_of world c.in_ok-reached.reached in
    exits (HasKept c.args.entry.now world) c.from_residual-in_err-check_calls.result e c.from_residual-in_err-check_calls.ensures.1
    (on_reached c.args.entry.now world c.in_ok-check_objects.ensures k c.in_ok-reached.ensures.reached (Err e)
    (same_error (FindsCallees k) (λ (done : Unit {0}). k) (kept_of world) e c.in_err-check_calls.ensures))

pub returns-clause-keeps : goal.returns-clause-keeps
returns-clause-keeps c =
    let k : Kept = kept_of c.args.world.now c.in_ok-reached.reached in
    goes_on c.args.world.now _ c.in_ok-check_objects.ensures (goes_on k _ c.in_ok-reached.ensures.reached c.in_ok-check_calls.ensures)
