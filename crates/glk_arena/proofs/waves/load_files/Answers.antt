use Rattle.std.proofs.Common.{◌-◌, ℕ, List, ap}
use Rattle.glk_base.specs.Limits.{file_limit}
use Rattle.glk_arena.specs.LoadParts.{inputs_by}
use Rattle.glk_arena.proofs.WaveSteps.{err_exit, read_refused, format_refused}
use Rattle.glk_arena.proofs.waves.load_files.Goals as goal

pub returns-in_err-wave-clause-err : goal.returns-in_err-wave-clause-err
returns-in_err-wave-clause-err g c =
    err_exit _ c.from_residual.result c.in_err-wave.field-0.0 c.from_residual.ensures.1
    (read_refused {C = List (List ℕ)} (inputs_by c.args.loader) _ _ c.args.earlier c.args.names.now _ _ (λ wave. wave) c.in_err-wave.field-0.0 c.packages-from.ensures.value (ap (λ (n : ℕ). file_limit - n) c.bytes-left.ensures.value) c.in_err-wave.ensures.reads)

pub returns-in_err-now-clause-err : goal.returns-in_err-now-clause-err
returns-in_err-now-clause-err g c =
    let reads = rw (c.packages-from.ensures.value, c.bytes-left.ensures.value) at c.in_ok-wave.ensures.reads.1 in
    let err = rw c.check_files.ensures at c.in_err-now.ensures.err in
    err_exit _ c.from_residual-in_err-now.result c.in_err-now.field-0.0 c.from_residual-in_err-now.ensures.1
    (format_refused (inputs_by c.args.loader) _ _ c.args.earlier c.args.names.now c.in_ok-wave.wave.items c.in_err-now.field-0.0 c.in_ok-wave.ensures.reads.0 c.requires.files reads err)
