use Rattle.std.proofs.Common.{◌≡◌, ◌<◌, ◌∙◌, arith, rules}
use Rattle.std.specs.Char.{digit_value}
use Rattle.glk_addr2line.proofs.DigitLemmas.{fits_more, next_value, next_digits}
use Rattle.glk_addr2line.proofs.address.digits_value.Goals as goal

pub overflow_mul-value : goal.overflow_mul-value
overflow_mul-value c =
    let fits = fits_more c.loop-digit.value 0 c.loop-digit.digit-index c.loop-digit.invariant.below (omega arith) (omega (arith, c.requires, c.loop-digit-test.true)) in
    omega (arith, fits.1)

-- the digit that was read
read : (c : goal.After-from-in-Some) → (c.from-in-Some.result < 16) × (c.from-in-Some.result ≡ digit_value c.from.result)
read c =
    let h = c.in-Some.ensures.value in
    let is : c.from-in-Some.result ≡ digit_value c.from.result = c.from-in-Some.ensures ∙ h.1 in
    (omega (arith, is, h.0), is)

pub overflow_add-value : goal.overflow_add-value
overflow_add-value c =
    let digit = read c in
    let fits = fits_more c.loop-digit.value c.from-in-Some.result c.loop-digit.digit-index c.loop-digit.invariant.below digit.0 (omega (arith, c.requires, c.loop-digit-test.true)) in
    omega (arith, fits.1)

pub loop-digit-preserved : goal.loop-digit-preserved
loop-digit-preserved c =
    let digit = read c in
    let fits = fits_more c.loop-digit.value c.from-in-Some.result c.loop-digit.digit-index c.loop-digit.invariant.below digit.0 (omega (arith, c.requires, c.loop-digit-test.true)) in
    let small : digit_value c.from.result < 16 = c.in-Some.ensures.value.0 in
    record {
      value = next_value c.args.digits.now c.loop-digit.digit-index 0 c.from.result c.loop-digit.value c.from-in-Some.result c.loop-digit-test.true (search rules) c.loop-digit.invariant.value digit.1;
      digits = next_digits c.args.digits.now c.loop-digit.digit-index 0 c.from.result c.loop-digit-test.true (search rules) c.loop-digit.invariant.digits small;
      below = fits.0;
    }
