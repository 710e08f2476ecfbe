use Rattle.std.proofs.Common.{◌≡◌, ◌∙◌, ℕ, List, Option, Some, None, length, ap, sym, arith}
use Rattle.glk_cause.specs.declared.cause.Cause.{Cause}
use Rattle.glk_arena.specs.World.{Package}
use Rattle.glk_arena.specs.Waves.{LoadInputs}
use Rattle.glk_arena.specs.LoadParts.{inputs_by, import_refusal_of}
use Rattle.glk_arena.proofs.ImportRefLemmas.{refs_moved, refs_grow}
use Rattle.glk_arena.proofs.WaveSteps.{err_exit, wave_read, wave_faulted, wave_refused, wave_done}
use Rattle.glk_arena.proofs.waves.one_wave.Goals as goal

pub returns-in_err-now-clause-err : goal.returns-in_err-now-clause-err
returns-in_err-now-clause-err g c =
    err_exit _ c.from_residual.result c.in_err-now.field-0.0 c.from_residual.ensures.1
    (wave_faulted (inputs_by c.args.loader) _ _ c.args.loading.names c.args.loading.list c.args.loading.refs.items c.args.loading.compared c.in_err-now.field-0.0 c.requires c.in_err-now.ensures.err)

pub add_imports-requires-clause-refs : goal.add_imports-requires-clause-refs
add_imports-requires-clause-refs g c =
    let read = c.in_ok-now.ensures.ok in
    refs_moved c.args.loading.list read.adds.wave c.in_ok-now.now c.packages-earlier.result c.args.loading.refs.items read.adds.now_is c.packages-earlier.ensures.value c.requires.refs_are

pub import_refusal-requires-clause-paths : goal.import_refusal-requires-clause-paths
import_refusal-requires-clause-paths g c =
    (wave_read (inputs_by c.args.loader) _ c.args.loading.names c.args.loading.list c.in_ok-now.now c.args.loading.refs.items c.args.loading.compared c.requires c.in_ok-now.ensures.ok).paths

pub import_refusal-requires-clause-known : goal.import_refusal-requires-clause-known
import_refusal-requires-clause-known g c =
    let read = c.in_ok-now.ensures.ok in
    let grow = refs_grow c.args.loading.list read.adds.wave c.in_ok-now.now c.args.loading.refs.items c.add_imports.new.refs.items read.adds.now_is c.requires.refs_are c.in_ok-add_imports.ensures in
    omega (arith, grow, c.len-known.ensures, c.args.loading.refs.ok.0, ap length c.deref.ensures.value)

pub returns-in-Some-clause-err : goal.returns-in-Some-clause-err
returns-in-Some-clause-err g c =
    let inputs : LoadInputs = inputs_by c.args.loader in
    let now : List Package = c.in_ok-now.now in
    let names : List (List ℕ) = c.args.loading.names in
    let earlier : c.packages-earlier.result ≡ length c.args.loading.list = c.packages-earlier.ensures.value in
    let known : c.len-known.result ≡ length c.args.loading.refs.items = omega (arith, c.len-known.ensures, c.args.loading.refs.ok.0) in
    let due : ℕ → ℕ → Option Cause = λ e k. import_refusal_of now inputs.listed names e c.args.loading.compared k in
    let some : Some c.in-Some.refusal ≡ due (length c.args.loading.list) (length c.args.loading.refs.items) =
    sym c.in-Some.is ∙ c.in_ok-refusal.ensures ∙ ap (λ (e : ℕ). due e c.len-known.result) earlier ∙ ap (λ (k : ℕ). due (length c.args.loading.list) k) known in
    wave_refused inputs _ _ names c.args.loading.list now c.args.loading.refs.items c.args.loading.compared c.in-Some.refusal c.in_ok-now.ensures.same c.requires c.in_ok-now.ensures.ok some

pub queue_imports-requires-clause-from : goal.queue_imports-requires-clause-from
queue_imports-requires-clause-from g c =
    let read = c.in_ok-now.ensures.ok in
    let grow = refs_grow c.args.loading.list read.adds.wave c.in_ok-now.now c.args.loading.refs.items c.add_imports.new.refs.items read.adds.now_is c.requires.refs_are c.in_ok-add_imports.ensures in
    omega (arith, grow, c.len-known.ensures, c.args.loading.refs.ok.0, ap length c.deref-2.ensures.value)

pub returns-clause-ok : goal.returns-clause-ok
returns-clause-ok g c =
    let inputs : LoadInputs = inputs_by c.args.loader in
    let now : List Package = c.in_ok-now.now in
    let names : List (List ℕ) = c.args.loading.names in
    let read = c.in_ok-now.ensures.ok in
    let grow = refs_grow c.args.loading.list read.adds.wave now c.args.loading.refs.items c.add_imports.new.refs.items read.adds.now_is c.requires.refs_are c.in_ok-add_imports.ensures in
    let earlier : c.packages-earlier.result ≡ length c.args.loading.list = c.packages-earlier.ensures.value in
    let known : c.len-known.result ≡ length c.args.loading.refs.items = omega (arith, c.len-known.ensures, c.args.loading.refs.ok.0) in
    let due : ℕ → ℕ → Option Cause = λ e k. import_refusal_of now inputs.listed names e c.args.loading.compared k in
    let none : None ≡ due (length c.args.loading.list) (length c.args.loading.refs.items) =
    sym c.in-None.is ∙ c.in_ok-refusal.ensures ∙ ap (λ (e : ℕ). due e c.len-known.result) earlier ∙ ap (λ (k : ℕ). due (length c.args.loading.list) k) known in
    let listed = rw known at c.in_ok-queue_imports.ensures in
    record {
      adds = wave_done inputs _ names c.queue_imports.new.names c.args.loading.list now c.args.loading.refs.items c.add_imports.new.refs.items c.args.loading.compared c.requires read
          c.in_ok-add_imports.ensures grow none listed;
      compared_is = known;
    }
