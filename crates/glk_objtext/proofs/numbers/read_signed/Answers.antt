use Rattle.std.proofs.Common.{arith, ◌≡◌, ◌<◌, ◌^◌, ◌+◌, ◌∙◌, refl, Ok, Err, pos, to_z, w64}
use Rattle.std.proofs.lemmas.Int.{to_z_pos}
use Rattle.glk_objtext.proofs.Exits.{stopped}
use Rattle.glk_objtext.proofs.NumberFacts.{signed_below, signed_above, negative_is, below_is}
use Rattle.glk_objtext.proofs.numbers.read_signed.Goals as goal

pub returns-in_err-number-clause-means : goal.returns-in_err-number-clause-means
returns-in_err-number-clause-means c = stopped _ _ _ _ c.from_residual.ensures.1 c.in_err-number.ensures.means (λ rule h. signed_below c.args.limit c.args.field.now (Err rule) c.if-has_minus.ensures.value h)

pub returns-then-number-eq0-clause-means : goal.returns-then-number-eq0-clause-means
returns-then-number-eq0-clause-means c = signed_below c.args.limit c.args.field.now (Ok c.in_ok-number.number) c.if-has_minus.ensures.value c.in_ok-number.ensures.means ∙ rw c.if-number-eq0.true refl

pub returns-else-number-eq0-clause-means : goal.returns-else-number-eq0-clause-means
returns-else-number-eq0-clause-means c =
    let some : 0 < c.in_ok-number.number = omega arith in
    let low : c.in_ok-number.number < 2 ^ 63 + 1 = omega (arith, c.in_ok-number.ensures.small, c.requires) in
    signed_below c.args.limit c.args.field.now (Ok c.in_ok-number.number) c.if-has_minus.ensures.value c.in_ok-number.ensures.means ∙ rw (negative_is c.in_ok-number.number some low) (below_is c.in_ok-number.number some)

pub returns-in_err-number-2-clause-means : goal.returns-in_err-number-2-clause-means
returns-in_err-number-2-clause-means c = stopped _ _ _ _ c.from_residual-in_err-number-2.ensures.1 c.in_err-number-2.ensures.means (λ rule h. signed_above c.args.limit c.args.field.now (Err rule) c.if-has_minus.ensures.value h)

pub returns-in_ok-number-2-clause-means : goal.returns-in_ok-number-2-clause-means
returns-in_ok-number-2-clause-means c =
    let low : c.in_ok-number-2.number < 2 ^ 63 = omega (arith, c.in_ok-number-2.ensures.small, c.requires) in
    let is : to_z w64 c.in_ok-number-2.number ≡ pos c.in_ok-number-2.number = to_z_pos w64 c.in_ok-number-2.number low in
    rw is (signed_above c.args.limit c.args.field.now (Ok c.in_ok-number-2.number) c.if-has_minus.ensures.value c.in_ok-number-2.ensures.means)
