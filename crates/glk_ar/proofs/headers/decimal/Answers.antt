use Rattle.std.proofs.Common.{arith, inl, inr}
use Rattle.glk_ar.proofs.Digits.{digit_at, no_digit, value_of_nine, more_digits}
use Rattle.glk_ar.proofs.headers.decimal.Goals as goal
use Rattle.glk_ar.proofs.headers.decimal.Goals.{then-d-lt48-via-then-d-lt48, then-d-lt48-via-else-d-lt48+then-d-gt57}

pub returns-then-d-lt48 : goal.returns-then-d-lt48
returns-then-d-lt48 c = λ digits.
    let digit = digit_at c.args.digits.now c.loop-d.d-index digits (omega arith) in
    elim c.then-d-lt48.branch [
      | then-d-lt48-via-then-d-lt48 w ↦ no_digit _ (inl w.if-d-lt48.true) digit
      | then-d-lt48-via-else-d-lt48+then-d-gt57 w ↦ no_digit _ (inr w.if-d-gt57.true) digit
    ]

pub overflow_mul-n : goal.overflow_mul-n
overflow_mul-n c = omega (arith, value_of_nine c.args.digits.now c.loop-d.d-index (omega arith) c.loop-d.invariant.digits)

pub overflow_add-n : goal.overflow_add-n
overflow_add-n c = omega (arith, value_of_nine c.args.digits.now c.loop-d.d-index (omega arith) c.loop-d.invariant.digits)

pub loop-d-preserved : goal.loop-d-preserved
loop-d-preserved c =
    let more = more_digits c.args.digits.now c.loop-d.d-index (omega arith) c.loop-d.invariant.digits c.if-d-lt48.false c.if-d-gt57.false in
    record { digits = more.0; value = rw c.loop-d.invariant.value more.1 }
