use Rattle.std.proofs.Common.{List, ℕ, refl, sym, subst, Ok, Err}
use Rattle.std.specs.Prelude.{Result}
use Rattle.glk_cause.specs.declared.cause.Cause.{Cause}
use Rattle.glk_base.specs.declared.fault.Fault.{Fault}
use Rattle.glk_cause.specs.Chain.{gives, Answers}
use Rattle.glk_cause.proofs.ChainLaws.{stopped, exits, demands_given}
use Rattle.glk_arena.specs.World.{Package}
use Rattle.glk_link.specs.Plans.{AreFewBytes, AreChosen}
use Rattle.glk_link.specs.Passes.{Kept, HasPlacedSymbols, Images, Keeps, LinksWorld}
use Rattle.glk_link.specs.Outputs.{kept_of, linked_of}
use Rattle.glk_link.specs.declared.link_packages.Output.{Output}
use Rattle.glk_link.proofs.PassSteps.{FromSymbols, on_kept, on_symbols}
use Rattle.glk_link.proofs.link_packages.link_world.Goals as goal

abbrev Links : List ℕ → List Package → Result Output (Fault Cause) → Type 0
Links entry world r = Answers (LinksWorld entry world) (linked_of world) r

pub returns-in_err-reached-clause-linked : goal.returns-in_err-reached-clause-linked
returns-in_err-reached-clause-linked c =
    let e = c.in_err-reached.field-0.0 in
    let world : List Package = c.in_ok-world.world in
    let P : List Package → Type 0 = λ w. Links c.args.entry.now w (Err e) in
    exits (Links c.args.entry.now c.args.loaded.now) c.from_residual-in_err-reached.result e c.from_residual-in_err-reached.ensures.1
    (subst P c.in_ok-world.ensures
    (stopped (Keeps c.args.entry.now) FromSymbols world (linked_of world) (kept_of world) e c.in_err-reached.ensures.keeps))

pub check_symbols-requires-clause-objects : goal.check_symbols-requires-clause-objects
check_symbols-requires-clause-objects c =
    let P : List Package → Type 0 = λ w. AreFewBytes w in
    let few : AreFewBytes c.in_ok-world.world = subst P (sym c.in_ok-world.ensures) c.requires.bytes in
    few.objects

pub returns-in_err-check_symbols-clause-linked : goal.returns-in_err-check_symbols-clause-linked
returns-in_err-check_symbols-clause-linked c =
    let e = c.in_err-check_symbols.field-0.0 in
    let world : List Package = c.in_ok-world.world in
    let k : Kept = kept_of world c.in_ok-reached.reached in
    let P : List Package → Type 0 = λ w. Links c.args.entry.now w (Err e) in
    exits (Links c.args.entry.now c.args.loaded.now) c.from_residual-in_err-check_symbols.result e c.from_residual-in_err-check_symbols.ensures.1
    (subst P c.in_ok-world.ensures
    (on_kept c.args.entry.now world k c.in_ok-reached.ensures.keeps (Err e)
    (stopped HasPlacedSymbols Images k (linked_of world) (λ (done : Unit {0}). k) e c.in_err-check_symbols.ensures)))

pub image_of-requires-clause-chosen : goal.image_of-requires-clause-chosen
image_of-requires-clause-chosen c =
    let world : List Package = c.in_ok-world.world in
    let k : Kept = kept_of world c.in_ok-reached.reached in
    let R : List Package → Type 0 = λ w. AreFewBytes w in
    let few : AreFewBytes world = subst R (sym c.in_ok-world.ensures) c.requires.bytes in
    let Q : List ℕ → Type 0 = λ l. AreChosen world l in
    subst Q (sym c.deref.ensures.value) (record {
      objects = few.objects;
      small = few.bytes;
      rising = c.in_ok-reached.ensures.kept.rising;
      range = c.in_ok-reached.ensures.range;
      built = (demands_given k k c.in_ok-check_symbols.ensures).1;
    })

pub returns-clause-linked : goal.returns-clause-linked
returns-clause-linked c =
    let world : List Package = c.in_ok-world.world in
    let k : Kept = kept_of world c.in_ok-reached.reached in
    let is = rw c.deref.ensures.value at c.in_ok-image.ensures in
    let output : Output = record { kept = c.in_ok-reached.reached.kept; image = c.in_ok-image.image; report = c.report-report.result } in
    let P : List Package → Type 0 = λ w. Links c.args.entry.now w (Ok output) in
    subst P c.in_ok-world.ensures
    (on_symbols c.args.entry.now world k c.in_ok-reached.ensures.keeps c.in_ok-check_symbols.ensures (Ok output)
    (gives (linked_of world output) (record { packages = refl; kept = refl; image = is })))
