use Rattle.std.proofs.Common.{◌≡◌, ◌<◌, ◌≤◌, ◌-◌, ◌^◌, ℕ, length, min, Err, sym, subst, arith}
use Rattle.glk_cause.specs.declared.cause.Cause.TheVariants as cause
use Rattle.glk_cause.specs.declared.cause.Limit.TheVariants as limit
use Rattle.glk_cause.specs.Chain.{stops, goes_on, fails, holds}
use Rattle.glk_arena.specs.World.{file_bytes, symbol_count}
use Rattle.glk_keys.specs.Rows.{row_count, row_limit}
use Rattle.glk_keys.specs.Programs.{Program}
use Rattle.glk_link.specs.Outputs.{program_by}
use Rattle.glk_link.specs.Plans.{linked_bytes}
use Rattle.glk_link.specs.Passes.{IsWithinLimits}
use Rattle.glk_link.proofs.RowCounts.{rows_are}
use Rattle.glk_link.proofs.WorldSteps.{fitting, rows_low}
use Rattle.glk_link.proofs.link_packages.check_limits.Goals as goal

-- the number that is told is that of the rows
exact : (l : Program) (number : ℕ) → number ≡ min (row_count l) (2 ^ 64 - 1) → symbol_count l.world ≤ 2 ^ 30 → length l.builtins < 2 ^ 32 → number ≡ row_count l
exact l number is low few = let are = rows_are l in omega (arith, is, low, few, are)

pub returns-then-number-gt-ROW_LIMIT-clause-limits : goal.returns-then-number-gt-ROW_LIMIT-clause-limits
returns-then-number-gt-ROW_LIMIT-clause-limits c =
    let l : Program = program_by c.args.entry.now c.args.inputs.now in
    let low = rows_low l.world (fitting l.world c.bytes-length.ensures.whole) c.bytes-length.ensures.few in
    let same = exact l c.row_total-number.result (c.row_total-number.ensures c.args.entry.now c.args.inputs.now.numbers) low (omega (arith, c.len-builtins.ensures)) in
    let above : row_limit < row_count l = omega (arith, c.if-number-gt-ROW_LIMIT.true, same) in
    let P : ℕ → Type 0 = λ n. IsWithinLimits l (Err (cause.TooLarge limit.Rows n)) in
    subst P (sym same) (stops _ (fails (λ few. omega (arith, above, few))))

pub returns-then-length-gt-LINKED_BYTES-clause-limits : goal.returns-then-length-gt-LINKED_BYTES-clause-limits
returns-then-length-gt-LINKED_BYTES-clause-limits c =
    let l : Program = program_by c.args.entry.now c.args.inputs.now in
    let low = rows_low l.world (fitting l.world c.bytes-length.ensures.whole) c.bytes-length.ensures.few in
    let same = exact l c.row_total-number.result (c.row_total-number.ensures c.args.entry.now c.args.inputs.now.numbers) low (omega (arith, c.len-builtins.ensures)) in
    let few : row_count l ≤ row_limit = omega (arith, c.if-number-gt-ROW_LIMIT.false, same) in
    let long : linked_bytes < file_bytes l.world = omega (arith, c.if-length-gt-LINKED_BYTES.true, c.bytes-length.ensures.value) in
    goes_on l _ (holds few) (fails (λ small. omega (arith, small, long)))

pub returns-clause-rows : goal.returns-clause-rows
returns-clause-rows c =
    let l : Program = program_by c.args.entry.now c.args.inputs.now in
    let low = rows_low l.world (fitting l.world c.bytes-length.ensures.whole) c.bytes-length.ensures.few in
    let same = exact l c.row_total-number.result (c.row_total-number.ensures c.args.entry.now c.args.inputs.now.numbers) low (omega (arith, c.len-builtins.ensures)) in
    omega (arith, c.if-number-gt-ROW_LIMIT.false, same)

pub returns-clause-limits : goal.returns-clause-limits
returns-clause-limits c =
    let l : Program = program_by c.args.entry.now c.args.inputs.now in
    let low = rows_low l.world (fitting l.world c.bytes-length.ensures.whole) c.bytes-length.ensures.few in
    let same = exact l c.row_total-number.result (c.row_total-number.ensures c.args.entry.now c.args.inputs.now.numbers) low (omega (arith, c.len-builtins.ensures)) in
    let few : row_count l ≤ row_limit = omega (arith, c.if-number-gt-ROW_LIMIT.false, same) in
    let small : file_bytes l.world ≤ linked_bytes = omega (arith, c.if-length-gt-LINKED_BYTES.false, c.bytes-length.ensures.value) in
    goes_on l _ (holds few) (holds small)

pub returns-clause-bytes : goal.returns-clause-bytes
returns-clause-bytes c =
    let world = c.args.inputs.now.loaded in
    let fits = fitting world c.bytes-length.ensures.whole in
    record { objects = fits.objects; bytes = omega (arith, fits.fit, c.if-length-gt-LINKED_BYTES.false, c.bytes-length.ensures.value) }
