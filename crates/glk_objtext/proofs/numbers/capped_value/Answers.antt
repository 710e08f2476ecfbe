use Rattle.std.proofs.Common.{arith}
use Rattle.std.proofs.lemmas.Str.Parse.{digit_at}
use Rattle.glk_objtext.proofs.NumberFacts.{more_digits}
use Rattle.glk_objtext.proofs.numbers.capped_value.Goals as goal

pub returns-then-not-is_ascii_digit : goal.returns-then-not-is_ascii_digit
returns-then-not-is_ascii_digit c = λ digits.
    let digit = digit_at c.args.digits.now c.loop-b.b-index digits c.loop-b-test.true in
    let other = c.if-not-is_ascii_digit.ensures.cases in
    omega (arith, digit.0, digit.1, other)

pub loop-b-preserved : goal.loop-b-preserved
loop-b-preserved c =
    let digit = c.if-not-is_ascii_digit.ensures.cases in
    let more = more_digits c.args.digits.now c.loop-b.b-index _ _ c.loop-b-test.true c.loop-b.invariant.digits digit.0 digit.1 c.loop-b.invariant.value (rw c.saturating_mul.ensures at c.saturating_add-value.ensures) in
    record { digits = more.0; value = more.1 }
